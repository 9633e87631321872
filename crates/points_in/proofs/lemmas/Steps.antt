-- What the reader's steps take from the words that are left.
use Rattle.std.specs.Prelude.{ℕ, ℤ, ◌+◌, ◌-◌, ◌<◌, ◌≤◌, ◌≡◌, false, List, [], ◌∷◌, length, take, drop, FitsSigned}
use Rattle.std.specs.Int.{w64}
use Rattle.std.specs.List.{slice_index}
use Rattle.std.proofs.Common.{arith, refl, ap, ◌∙◌}
use Rattle.std.proofs.lemmas.List.{length-append}
use Rattle.points_in.specs.declared.fault.PointFault.{PointFault}
use Rattle.points_in.specs.declared.fault.PointFault.TheVariants.{BadNumber, NumberTooLarge, TooManyPoints, OddCount, NoPoints, Memory}
use Rattle.points_in.specs.Number.{IsNumberWord, IsNumber, number_of}
use Rattle.points_in.specs.Reading.{words_at, TakesNumber, StopsAtOnce, StopsBeforePoint}
use Rattle.points_in.specs.Words.{Word, is_blank, front_word}
use Rattle.points_in.proofs.lemmas.Words.{words_at-word, word_within, slice_from}

-- Blanks were passed over, and a word begins here.
pub record BeginsWord (bytes : List ℕ) (at start : ℕ) : Type 0 where
  pub words : words_at bytes at ≡ words_at bytes start
  pub onward : at ≤ start
  pub inside : start < length bytes
  pub word : is_blank (slice_index bytes start) ≡ false

-- the word that begins there
abbrev pub word_at : List ℕ → ℕ → Word
word_at bytes start = record { at = start; bytes = front_word (drop start bytes) }

-- the bytes from there on, as a slice
abbrev pub rest_from : List ℕ → ℕ → List ℕ
rest_from bytes start = take (length bytes - start) (drop start bytes)

-- it comes first
pub begins_with_word : (bytes : List ℕ) (at start : ℕ) → BeginsWord bytes at start
    → words_at bytes at ≡ word_at bytes start ∷ words_at bytes (start + length (front_word (drop start bytes)))
begins_with_word bytes at start begins = begins.words ∙ words_at-word bytes start begins.inside begins.word

-- and is taken where it is a number
pub takes_number : (bytes : List ℕ) (at start len : ℕ) (value : ℤ) → BeginsWord bytes at start → IsNumber (front_word (rest_from bytes start))
    → value ≡ number_of (front_word (rest_from bytes start)) → len ≡ length (front_word (rest_from bytes start))
    → TakesNumber bytes at (record { at = start; value = value; end = start + len })
takes_number bytes at start len value begins number value_is len_is =
    let same = slice_from bytes start in
    let length_is : len ≡ length (front_word (drop start bytes)) = rw same at len_is in
    let within = word_within bytes start begins.inside begins.word in
    record {
      word = word_at bytes start;
      words = rw length_is (begins_with_word bytes at start begins);
      number = rw same at number;
      here = refl;
      value = rw same at value_is;
      onward = omega (arith, begins.onward);
      within = omega arith;
    }

-- and stops the reader where it isn't
pub stops_at_bad : (bytes : List ℕ) (at start : ℕ) → BeginsWord bytes at start → ¬ IsNumberWord (front_word (rest_from bytes start))
    → StopsAtOnce (words_at bytes at) (BadNumber start)
stops_at_bad bytes at start begins bad = record {
  word = word_at bytes start;
  after = words_at bytes (start + length (front_word (drop start bytes)));
  parts = begins_with_word bytes at start begins;
  fails = (refl, rw (slice_from bytes start) at bad);
}

pub stops_at_large : (bytes : List ℕ) (at start : ℕ) → BeginsWord bytes at start → IsNumberWord (front_word (rest_from bytes start))
    → ¬ FitsSigned w64 (number_of (front_word (rest_from bytes start))) → StopsAtOnce (words_at bytes at) (NumberTooLarge start)
stops_at_large bytes at start begins number large = record {
  word = word_at bytes start;
  after = words_at bytes (start + length (front_word (drop start bytes)));
  parts = begins_with_word bytes at start begins;
  fails = (refl, rw (slice_from bytes start) at number, rw (slice_from bytes start) at large);
}

-- the first word of a point stops the reader
pub stops_at_x : (words : List Word) (fault : PointFault) → StopsAtOnce words fault → StopsBeforePoint words fault
stops_at_x words (BadNumber at) stops =
    record { before = []; word = stops.word; after = stops.after; parts = stops.parts; numbers = tt; short = omega arith; fails = stops.fails }
stops_at_x words (NumberTooLarge at) stops =
    record { before = []; word = stops.word; after = stops.after; parts = stops.parts; numbers = tt; short = omega arith; fails = stops.fails }
stops_at_x words (TooManyPoints at) stops =
    omega (arith, ap length stops.fails.last, length-append stops.fails.front (stops.fails.x ∷ []))
stops_at_x words OddCount stops = absurd stops.fails
stops_at_x words NoPoints stops = stops.fails
stops_at_x words (Memory e) stops = stops.fails

-- or the second does
pub stops_at_y : (words rest : List Word) (x : Word) (fault : PointFault) → words ≡ x ∷ rest → IsNumber x.bytes → StopsAtOnce rest fault
    → StopsBeforePoint words fault
stops_at_y words rest x (BadNumber at) is number stops = record {
  before = x ∷ [];
  word = stops.word;
  after = stops.after;
  parts = is ∙ ap (λ ws. x ∷ ws) stops.parts;
  numbers = (number, tt);
  short = omega arith;
  fails = stops.fails;
}
stops_at_y words rest x (NumberTooLarge at) is number stops = record {
  before = x ∷ [];
  word = stops.word;
  after = stops.after;
  parts = is ∙ ap (λ ws. x ∷ ws) stops.parts;
  numbers = (number, tt);
  short = omega arith;
  fails = stops.fails;
}
stops_at_y words rest x (TooManyPoints at) is number stops =
    omega (arith, ap length stops.fails.last, length-append stops.fails.front (stops.fails.x ∷ []))
stops_at_y words rest x OddCount is number stops = absurd stops.fails
stops_at_y words rest x NoPoints is number stops = stops.fails
stops_at_y words rest x (Memory e) is number stops = stops.fails
