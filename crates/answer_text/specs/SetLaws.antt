-- The digits of a set, place by place.
use Rattle.std.specs.Prelude.{ℕ, suc, zero, ◌+◌, ◌-◌, ◌*◌, ◌/◌, ◌≡◌, ◌<◌, ◌≤◌, Bool, true, false, ◌&&◌, List, [], ◌∷◌, ◌++◌, length, nat_lt, nat_le, ◌==◌, if◌then◌else◌, refl}
use Rattle.std.proofs.Common.{get_or, take, arith, add-zero, ap, sym, ◌∙◌, append_assoc}
use Rattle.std.specs.Int.{div_ceil, bit_at}
use Rattle.std.proofs.lemmas.Grind.{div_ceil_times}
use Rattle.std.proofs.lemmas.List.{take_more, take_all, append-nil}
use Rattle.net_graph.specs.Flags.{has, flag_of_four}
use Rattle.answer_text.specs.Words.{four_digit, set_text}

-- the digit at a place, which stands for the four flags from there on
abbrev pub digit_at_place : List Bool → ℕ → ℕ
digit_at_place set place =
    four_digit (has set (4 * place)) (has set (4 * place + 1)) (has set (4 * place + 2)) (has set (4 * place + 3))

-- the digit at a place of a word of 64 flags, of which the first is the lowest bit
abbrev pub digit_in_word : ℕ → ℕ → ℕ
digit_in_word word place = four_digit (bit_at word (4 * place) == 1) (bit_at word (4 * place + 1) == 1)
    (bit_at word (4 * place + 2) == 1) (bit_at word (4 * place + 3) == 1)

-- a set has one digit for each four flags
pub length-set_text : (set : List Bool) → length (set_text set) ≡ (length set + 3) / 4
length-set_text [] = refl
length-set_text (a ∷ []) = refl
length-set_text (a ∷ b ∷ []) = refl
length-set_text (a ∷ b ∷ c ∷ []) = refl
length-set_text (a ∷ b ∷ c ∷ d ∷ set) = omega (arith, length-set_text set)

-- behind the first four flags stand the flags of the rest
has-further : (a b c d : Bool) (set : List Bool) (place k : ℕ) →
    has (a ∷ b ∷ c ∷ d ∷ set) (4 * suc place + k) ≡ has set (4 * place + k)
has-further a b c d set place k = grind arith

-- they stand in the order of the flags
pub get_or-set_text : (set : List Bool) (place : ℕ) → place < length (set_text set) →
    get_or (set_text set) place 0 ≡ digit_at_place set place
get_or-set_text [] place inside = absurd (omega arith)
get_or-set_text (a ∷ []) zero inside = refl
get_or-set_text (a ∷ []) (suc place) inside = absurd (omega arith)
get_or-set_text (a ∷ b ∷ []) zero inside = refl
get_or-set_text (a ∷ b ∷ []) (suc place) inside = absurd (omega arith)
get_or-set_text (a ∷ b ∷ c ∷ []) zero inside = refl
get_or-set_text (a ∷ b ∷ c ∷ []) (suc place) inside = absurd (omega arith)
get_or-set_text (a ∷ b ∷ c ∷ d ∷ set) zero inside = refl
get_or-set_text (a ∷ b ∷ c ∷ d ∷ set) (suc place) inside =
    let first : has (a ∷ b ∷ c ∷ d ∷ set) (4 * suc place) ≡ has set (4 * place) =
    simp add-zero at (has-further a b c d set place 0) in
    rw (
      get_or-set_text set place (omega arith),
      first,
      has-further a b c d set place 1,
      has-further a b c d set place 2,
      has-further a b c d set place 3,
    ) refl

-- the number of digits, as a rounded quotient
pub digit_count : (n : ℕ) → div_ceil n 4 ≡ (n + 3) / 4
digit_count n = omega (arith, div_ceil_times n 4 (omega arith))

-- one digit more
take_set_text-more : (set : List Bool) (place : ℕ) → place < (length set + 3) / 4
    → take place (set_text set) ++ (digit_at_place set place ∷ []) ≡ take (place + 1) (set_text set)
take_set_text-more set place inside =
    let within : place < length (set_text set) = omega (arith, length-set_text set) in
    ap (λ digit. take place (set_text set) ++ (digit ∷ [])) (sym (get_or-set_text set place within))
    ∙ sym (take_more (set_text set) place 0 within)

-- so many digits more, in a loop over the words
pub take_set_text-run : (set : List Bool) (digits : List ℕ) (place count : ℕ) → count ≤ length digits →
    place + count ≤ (length set + 3) / 4
    → ((n : ℕ) → n < count → get_or digits n 0 ≡ digit_at_place set (place + n))
    → take place (set_text set) ++ take count digits ≡ take (place + count) (set_text set)
take_set_text-run set digits place zero enough inside are =
    append-nil (take place (set_text set)) ∙ ap (λ n. take n (set_text set)) (sym (add-zero place))
take_set_text-run set digits place (suc count) enough inside are =
    let front : take place (set_text set) ++ take count digits ≡ take (place + count) (set_text set) =
    take_set_text-run set digits place count (omega arith) (omega arith) (λ n below. are n (omega arith)) in
    let more : suc count ≡ count + 1 = omega arith in
    let enough' : count < length digits = omega arith in
    let least : count < suc count = omega arith in
    let last : take (suc count) digits ≡ take count digits ++ digit_at_place set (place + count) ∷ [] =
    ap (λ n. take n digits) more ∙ take_more digits count 0 enough'
    ∙ ap (λ digit. take count digits ++ digit ∷ []) (are count least) in
    let next : place + count + 1 ≡ place + suc count = omega arith in
    let inside_next : place + count < (length set + 3) / 4 = omega arith in
    ap (λ run. take place (set_text set) ++ run) last
    ∙ sym (append_assoc (take place (set_text set)) (take count digits) (digit_at_place set (place + count) ∷ []))
    ∙ ap (λ run. run ++ digit_at_place set (place + count) ∷ []) front
    ∙ take_set_text-more set (place + count) inside_next
    ∙ ap (λ n. take n (set_text set)) next

-- and no more of them
pub take_set_text-all : (set : List Bool) (place : ℕ) → (length set + 3) / 4 ≤ place →
    take place (set_text set) ≡ set_text set
take_set_text-all set place past = take_all place (set_text set) (omega (arith, length-set_text set))

-- ---- sets from their digits

-- the value of a digit; 0 for what is none
abbrev pub hex_value : ℕ → ℕ
hex_value b = if nat_le 48 b && nat_lt b 58 then b - 48 else (if nat_le 97 b && nat_lt b 103 then b - 87 else 0)

-- a digit tells its four flags
flags_in : (a b c d : Bool) → (flag_of_four (hex_value (four_digit a b c d)) 0 ≡ a)
    × (flag_of_four (hex_value (four_digit a b c d)) 1 ≡ b)
    × (flag_of_four (hex_value (four_digit a b c d)) 2 ≡ c) × (flag_of_four (hex_value (four_digit a b c d)) 3 ≡ d)
flags_in true true true true = (refl, refl, refl, refl)
flags_in true true true false = (refl, refl, refl, refl)
flags_in true true false true = (refl, refl, refl, refl)
flags_in true true false false = (refl, refl, refl, refl)
flags_in true false true true = (refl, refl, refl, refl)
flags_in true false true false = (refl, refl, refl, refl)
flags_in true false false true = (refl, refl, refl, refl)
flags_in true false false false = (refl, refl, refl, refl)
flags_in false true true true = (refl, refl, refl, refl)
flags_in false true true false = (refl, refl, refl, refl)
flags_in false true false true = (refl, refl, refl, refl)
flags_in false true false false = (refl, refl, refl, refl)
flags_in false false true true = (refl, refl, refl, refl)
flags_in false false true false = (refl, refl, refl, refl)
flags_in false false false true = (refl, refl, refl, refl)
flags_in false false false false = (refl, refl, refl, refl)

-- the flag at each place, by the number of its vertex
pub flag_at_place : (set : List Bool) (place r v : ℕ) → r < 4 → v ≡ 4 * place + r →
    flag_of_four (hex_value (digit_at_place set place)) r ≡ has set v
flag_at_place set place zero v below is = rw (is, add-zero (4 * place))
    (flags_in (has set (4 * place)) (has set (4 * place + 1)) (has set (4 * place + 2)) (has set (4 * place + 3))).0
flag_at_place set place (suc zero) v below is = rw is
    (flags_in (has set (4 * place)) (has set (4 * place + 1)) (has set (4 * place + 2)) (has set (4 * place + 3))).1
flag_at_place set place (suc (suc zero)) v below is = rw is
    (flags_in (has set (4 * place)) (has set (4 * place + 1)) (has set (4 * place + 2)) (has set (4 * place + 3))).2
flag_at_place set place (suc (suc (suc zero))) v below is = rw is
    (flags_in (has set (4 * place)) (has set (4 * place + 1)) (has set (4 * place + 2)) (has set (4 * place + 3))).3
flag_at_place set place (suc (suc (suc (suc r)))) v below is = absurd (omega arith)
