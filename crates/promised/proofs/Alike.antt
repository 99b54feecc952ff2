-- Two facts that a contract says of two outcomes make one of both. Assumes nothing.
--     alike            what each outcome is said to satisfy makes them the same
--     equal            .. where each is said to be one and the same value
--     first_alike      .. by the first of two `ensures`
--     first_equal      .. where that is said to be one and the same value
--     both             two pairs, part by part
use mathlib.Core.Path.{◌≡◌, sym, ap₂, ◌∙◌}
use seplogic.Ra.Ura.{Ura}
use base.Logic.{ent, sep, via, mono∗, fst∗, snd∗}
use contract.Monad.{fact, fact_i, fact_use}

-- two pairs, part by part
pub both : {X Y : Type 0} {x x' : X} {y y' : Y} → x ≡ x' → y ≡ y' → ◌≡◌ {A = X × Y} (x, y) (x', y')
both {X} {Y} e f = ap₂ pair e f
  where
    pair : X → Y → X × Y
    pair a b = (a, b)

module _ {M : Type 1} (𝓤 : Ura M) where
  pub alike : {P P' Q : Type 0} → (P → P' → Q) → ent 𝓤 (sep 𝓤 (fact 𝓤 P) (fact 𝓤 P')) (fact 𝓤 Q)
  alike {P} {P'} {Q} f =
      fact_use 𝓤 P (fst∗ 𝓤 (fact 𝓤 P) (fact 𝓤 P')) (λ p.
      fact_use 𝓤 P' (snd∗ 𝓤 (fact 𝓤 P) (fact 𝓤 P')) (λ p'. fact_i 𝓤 Q (sep 𝓤 (fact 𝓤 P) (fact 𝓤 P')) (f p p')))

  pub equal : {X : Type 0} {d r r' : X} {W : Type 0} → W → ent 𝓤 (sep 𝓤 (fact 𝓤 (r ≡ d)) (fact 𝓤 (r' ≡ d))) (fact 𝓤 ((r ≡ r') × W))
  equal w = alike (λ e e'. (e ∙ sym e', w))

  pub first_alike : {P P' R R' Q : Type 0} → (P → P' → Q) → ent 𝓤 (sep 𝓤 (sep 𝓤 (fact 𝓤 P) (fact 𝓤 R)) (sep 𝓤 (fact 𝓤 P') (fact 𝓤 R'))) (fact 𝓤 Q)
  first_alike {P} {P'} {R} {R'} {Q} f = via 𝓤 (sep 𝓤 (fact 𝓤 P) (fact 𝓤 P')) (mono∗ 𝓤 (fst∗ 𝓤 (fact 𝓤 P) (fact 𝓤 R)) (fst∗ 𝓤 (fact 𝓤 P') (fact 𝓤 R'))) (alike f)

  pub first_equal : {X : Type 0} {d r r' : X} {W R R' : Type 0} → W → ent 𝓤 (sep 𝓤 (sep 𝓤 (fact 𝓤 (r ≡ d)) (fact 𝓤 R)) (sep 𝓤 (fact 𝓤 (r' ≡ d)) (fact 𝓤 R'))) (fact 𝓤 ((r ≡ r') × W))
  first_equal w = first_alike (λ e e'. (e ∙ sym e', w))
