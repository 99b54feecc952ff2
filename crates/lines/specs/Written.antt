-- That a text was put into a buffer.
use Rattle.std.specs.Prelude.{ℕ, ◌+◌, ◌≡◌, List, ◌++◌, length, take, drop}
use Rattle.lines.specs.declared.Page.{Page}

-- In the buffer `after` the text stands at place `at`, after what stood there before, and ends before place `next`, from which on nothing has changed.
pub record Written (before : List ℕ) (at : ℕ) (text : List ℕ) (after : List ℕ) (next : ℕ) : Type 0 where
  pub ends : next ≡ at + length text
  pub reads : take next after ≡ take at before ++ text
  pub rest : drop next after ≡ drop next before

-- The text was put into the page, from where it was filled up to: it is filled up to the text's end, and lends the same buffer, which is as long as it was.
pub record Put (before : Page) (text : List ℕ) (after : Page) : Type 0 where
  pub written : Written before.out.now before.at text after.out.now after.at
  pub same : after.out.ghost_name ≡ before.out.ghost_name
  pub place : after.out.ref_ptr ≡ before.out.ref_ptr
  pub long : length after.out.now ≡ length before.out.now
