-- What the typed getters of `clap` read is what the definitions of values say.
use Rattle.std.proofs.Common.{◌≡◌, ◌^◌, ℕ, Bool, cond, true, false, List, [], ◌∷◌, Option, Some, None, Result, Ok, refl, sym, nat_lt, lt-ltb, ltb-true, arith}
use Rattle.std.specs.Prelude.{option_and_then}
use Rattle.std.specs.List.{list_all}
use Rattle.std.specs.Char.{digit_value}
use Rattle.std.specs.Str.Parse.{AllDigits, IsNumeral, ParsesBool, ParsesUnsigned, digits_value, false_text, true_text, without_leading_plus}
use Rattle.std.specs.Str.{bytes_eq}
use Rattle.std.proofs.lemmas.Slice.Eq.{bytes_eq-Decides}
use Rattle.clap.specs.Matches.{ReadsOne}
use Rattle.clap.specs.ValueTests.{is_numeral}
use Rattle.clap.specs.Words.{Text}
use Rattle.clap.proofs.WalkLemmas.{both}
use Rattle.search_rules.specs.Names.{IsNamed}
use Rattle.requests.specs.Values.{number_of, truth_of}

-- a getter that reads nothing where there is no text, and else what the text spells
pub reads : {T : Type 0} (spelled : Text → Option T) (o : Option Text) (r : Option T) → (o ≡ None → r ≡ None)
    → ((t : Text) → o ≡ Some t → r ≡ spelled t) → r ≡ option_and_then spelled o
reads spelled None r none some = none refl
reads spelled (Some t) r none some = some t refl

digits_pass : (ds : List ℕ) → AllDigits 10 ds → list_all (λ d. nat_lt (digit_value d) 10) ds ≡ true
digits_pass [] h = refl
digits_pass (d ∷ ds) h = rw (lt-ltb (digit_value d) 10 h.0) (digits_pass ds h.1)

digits_from : (ds : List ℕ) → list_all (λ d. nat_lt (digit_value d) 10) ds ≡ true → AllDigits 10 ds
digits_from [] e = tt
digits_from (d ∷ ds) e =
    let parts = both _ _ e in
    (ltb-true _ _ parts.0, digits_from ds parts.1)

pub numeral_passes : (ds : List ℕ) → IsNumeral 10 ds → is_numeral ds ≡ true
numeral_passes ds h = rw (lt-ltb _ _ h.0, digits_pass ds h.1) refl

pub numeral_from : (ds : List ℕ) → is_numeral ds ≡ true → IsNumeral 10 ds
numeral_from ds e = grind (arith, both, ltb-true, digits_from)

-- a number of an unsigned type
pub number_reads : {E : Type 0} (bits : ℕ) (t : Text) (r : Option ℕ) (G : List ℕ → Result ℕ E → Type 0)
    → ((u : List ℕ) (x : Result ℕ E) → G u x → ParsesUnsigned bits 10 u x) → ReadsOne G t r → r ≡ number_of bits t
number_reads bits t (Some v) G only h = grind (arith, only t (Ok v) h, numeral_passes, lt-ltb)
number_reads bits t None G only h =
    grind (arith, nat_lt (digits_value 10 (without_leading_plus t)) (2 ^ bits), both, numeral_from, ltb-true)

-- a truth
pub truth_reads : (E : Type 0) (t : Text) (r : Option Bool) → ReadsOne {E = E} ParsesBool t r → r ≡ truth_of t
truth_reads E t (Some true) h = rw h refl
truth_reads E t (Some false) h = rw h refl
truth_reads E t None h = go (bytes_eq t true_text) (bytes_eq t false_text) refl refl
  where
    go : (a b : Bool) → bytes_eq t true_text ≡ a → bytes_eq t false_text ≡ b → None ≡ cond a (Some true) (cond b (Some false) None)
    go true b e f = absurd (h.1.0 ((bytes_eq-Decides t true_text).0 e))
    go false true e f = absurd (h.1.1 ((bytes_eq-Decides t false_text).0 f))
    go false false e f = refl

-- a rule by its name
pub named_reads : (T E : Type 0) (named : Text → Option T) (t : Text) (r : Option T) → ReadsOne {E = E} (λ u x. IsNamed (named u) x) t r → r ≡ named t
named_reads T E named t (Some v) h = sym h
named_reads T E named t None h = sym h.1
