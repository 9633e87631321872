-- Words of sets of places: a set has one word, and a word is of one ascending list.
use Rattle.std.specs.Prelude.{ℕ, ◌≡◌, List}
use Rattle.std.specs.Int.{bit_at}
use Rattle.std.proofs.Common.{sym, ◌∙◌, arith, ⊎_elim}
use Rattle.std.proofs.lemmas.Bool.{cases_eq}
use Rattle.std.proofs.lemmas.Nat.Bits.{bit_at-lt, same_from_bits}
use Rattle.full_tree.specs.MembersLaws.{Climbs, same_from_members}
use Rattle.full_tree.specs.Word.{IsWordOf}

-- a set has one word
pub same_word : (v w : ℕ) (places : List ℕ) → IsWordOf v places → IsWordOf w places → v ≡ w
same_word v w places a b = same_from_bits v w (λ i.
    let low = bit_at-lt v i in
    let low' = bit_at-lt w i in
    ⊎_elim
    (λ (one : bit_at v i ≡ 1). one ∙ sym (b.has i (a.only i one)))
    (λ (none : bit_at v i ≡ 1 → ⊥). ⊎_elim
    (λ (one : bit_at w i ≡ 1). absurd (none (a.has i (b.only i one))))
    (λ (none' : bit_at w i ≡ 1 → ⊥). omega (arith, low, low', none, none'))
    (cases_eq (bit_at w i) 1))
    (cases_eq (bit_at v i) 1))

-- a word is of one ascending list
pub same_places : (word : ℕ) (ps qs : List ℕ) → Climbs ps → Climbs qs → IsWordOf word ps → IsWordOf word qs → ps ≡ qs
same_places word ps qs climbs climbs' x y = same_from_members ps qs climbs climbs'
    (λ r member. y.only r (x.has r member)) (λ r member. x.only r (y.has r member))
