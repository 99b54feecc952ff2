-- `listing_text::most_segments` meets its contract: 25 for each record, and 4,096 at most. Assumes nothing.
use Rattle.listing_text.specs.Rooms.{most_segments}
use Rattle.listing_text.proofs.most_segments.Goals as goal

pub returns-clause-value : goal.returns-clause-value
unfolding most_segments
returns-clause-value c =
    c.limit_of.ensures
