-- Any two answers that a contract permits are equal: what that means, of the contract of any function. A function's module has its `ended`, how its
-- parameters are seen at exit, and its `clauses`, which are what its `requires` and `ensures` say.
use Rattle.std.specs.Prelude.{◌≡◌}
use seplogic.Ra.Ura.{Ura}
use base.Logic.{SProp, ent, sep}
use contract.Lifetimes.{Lfts}
use contract.Monad.{fact}
use denote.Triple.Entry.{Args, Res}
use denote.Triple.Clauses.{Ended, Clauses, Lasts, at_exit}

module _ {M : Type 1} (𝓤 : Ura M) (T : Ended) where
  -- What the `ensures` say of a result r, where ws stands after the call in all that was lent mutably.
  abbrev pub permits : (c : Clauses 𝓤 T) (κs : Lfts T.signature.lifetimes) (a : Args T.signature κs) → (c κs a).ghost → Res T.signature κs → Lasts T κs a → SProp 𝓤
  permits c κs a g r ws = (c κs a).ensures g r (at_exit T κs a ws)

  -- From the same arguments any two results that the contract permits read the same, and so does what it permits in all that is lent mutably.
  abbrev pub DeterminedAs : (X : Lfts T.signature.lifetimes → Type 0) → ((κs : Lfts T.signature.lifetimes) → Res T.signature κs → X κs) → Clauses 𝓤 T → Type 1
  DeterminedAs X read c =
      (κs : Lfts T.signature.lifetimes) (a : Args T.signature κs) (g : (c κs a).ghost) (r r' : Res T.signature κs) (ws ws' : Lasts T κs a)
      → ent 𝓤 (sep 𝓤 (permits c κs a g r ws) (permits c κs a g r' ws')) (fact 𝓤 ((read κs r ≡ read κs r') × (ws ≡ ws')))

  -- **two-answers.** Any two results that the contract permits are equal, and so is what it permits in all that is lent mutably.
  abbrev pub Determined : Clauses 𝓤 T → Type 1
  Determined c = DeterminedAs (Res T.signature) (λ κs r. r) c

  -- .. where the arguments meet P, as that a function which is handed in computes some definition, or that an iterator gives some list.
  abbrev pub DeterminedWhere : ((κs : Lfts T.signature.lifetimes) → Args T.signature κs → Type 0) → Clauses 𝓤 T → Type 1
  DeterminedWhere P c =
      (κs : Lfts T.signature.lifetimes) (a : Args T.signature κs) (p : P κs a) (g : (c κs a).ghost) (r r' : Res T.signature κs) (ws ws' : Lasts T κs a)
      → ent 𝓤 (sep 𝓤 (permits c κs a g r ws) (permits c κs a g r' ws')) (fact 𝓤 ((r ≡ r') × (ws ≡ ws')))
