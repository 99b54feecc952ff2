-- `daf::is_ascii` meets its contract. Assumes nothing.
use Rattle.std.proofs.Common.{◌<◌, ◌↔◌, IsTrue, All, rules}
use Rattle.daf.proofs.Naming.{all_ascii}
use Rattle.daf.proofs.names.is_ascii.Goals as goal

pub returns : goal.returns
returns c =
    let all : IsTrue c.all.result ↔ All (λ b. b < 128) c.args.bytes.now = search rules in
    all_ascii c.args.bytes.now _ all
