-- How far the reader of points has come, and what each way out of it shows of the text.
use Rattle.std.specs.Prelude.{ℕ, ◌+◌, ◌<◌, ◌≤◌, ◌≡◌, ◌≢◌, ◌⊎◌, List, [], ◌∷◌, ◌++◌, length, Contains, Result, Ok, Err, IsErrOf, IsErrAnd, MatchResult}
use Rattle.std.specs.declared.alloc.AllocError.{AllocError}
use Rattle.std.proofs.Common.{arith, refl, sym, ap, subst, ◌∙◌, inl, inr}
use Rattle.std.proofs.lemmas.List.{append_assoc, append-nil, length-append}
use Rattle.points_in.specs.declared.point.Point.{Point}
use Rattle.points_in.specs.declared.points.Added.{Added}
use Rattle.points_in.specs.declared.points.Added.TheVariants.{New, Repeat}
use Rattle.points_in.specs.declared.points.AddFault.{AddFault}
use Rattle.points_in.specs.declared.points.AddFault.TheVariants as add
use Rattle.points_in.specs.declared.fault.PointFault.{PointFault}
use Rattle.points_in.specs.declared.fault.PointFault.TheVariants.{BadNumber, NumberTooLarge, TooManyPoints, OddCount, NoPoints, Memory}
use Rattle.points_in.specs.declared.read.NextPoint.{NextPoint}
use Rattle.points_in.specs.Number.{IsNumber}
use Rattle.points_in.specs.Reading.{words_at, TakesPoint, StopsAtNumber, StopsBeforePoint, EndsAfterX, AnswersPoints}
use Rattle.points_in.specs.Terminals.{terminals_of}
use Rattle.points_in.specs.TerminalLaws.{terminals_of_new, terminals_of_repeat}
use Rattle.points_in.specs.Text.{AreNumbers, point_of, points_of, IsPointText, AreSound, FailsAt, FirstFailure, EndsWithoutY, PointFaultOf, IsMemory, HasPointCause}
use Rattle.points_in.specs.Words.{Word, words_of}
use Rattle.points_in.specs.FaultLaws.{one_fault, listed_no_fault}

-- Whole points were read, these are they, each once, and the other words come from here on.
pub record HasRead (bytes : List ℕ) (at : ℕ) (points : List Point) : Type 0 where
  pub read : List Word
  pub parts : words_of bytes ≡ read ++ words_at bytes at
  pub numbers : AreNumbers read
  pub even : length read ≡ length (points_of read) + length (points_of read)
  pub some : 0 < length (points_of read)
  pub points_are : points ≡ terminals_of (points_of read)
  pub few : length points ≤ 50
  pub within : at ≤ length bytes

-- a point after whole points
points_of-point : (read : List Word) (x y : Word) → length read ≡ length (points_of read) + length (points_of read)
    → points_of (read ++ x ∷ y ∷ []) ≡ points_of read ++ point_of x y ∷ []
points_of-point [] x y even = refl
points_of-point (a ∷ []) x y even = absurd (omega arith)
points_of-point (a ∷ b ∷ read) x y even = ap (λ ps. point_of a b ∷ ps) (points_of-point read x y (omega arith))

-- a word after whole points
points_of-word : (read : List Word) (x : Word) → length read ≡ length (points_of read) + length (points_of read) → points_of (read ++ x ∷ []) ≡ points_of read
points_of-word [] x even = refl
points_of-word (a ∷ []) x even = absurd (omega arith)
points_of-word (a ∷ b ∷ read) x even = ap (λ ps. point_of a b ∷ ps) (points_of-word read x (omega arith))

-- numbers after numbers
numbers_append : (xs ys : List Word) → AreNumbers xs → AreNumbers ys → AreNumbers (xs ++ ys)
numbers_append [] ys p q = q
numbers_append (x ∷ xs) ys p q = (p.0, numbers_append xs ys p.1 q)

-- after the first point
pub read_first : (bytes : List ℕ) (next : NextPoint) (points : List Point) → TakesPoint bytes 0 next → points ≡ next.point ∷ [] → HasRead bytes next.end points
read_first bytes next points takes begun = record {
  read = takes.x ∷ takes.y ∷ [];
  parts = takes.words;
  numbers = (takes.x_number, (takes.y_number, tt));
  even = refl;
  some = omega arith;
  points_are = begun ∙ ap (λ p. p ∷ []) takes.point;
  few = omega (arith, ap length begun);
  within = takes.within;
}

-- after one more point
read_more : (bytes : List ℕ) (at : ℕ) (points after : List Point) (next : NextPoint) (so_far : HasRead bytes at points) → TakesPoint bytes at next
    → after ≡ terminals_of (points_of so_far.read ++ next.point ∷ []) → length after ≤ 50 → HasRead bytes next.end after
read_more bytes at points after next so_far takes are few =
    grind (
      arith,
      points_of-point so_far.read takes.x takes.y so_far.even,
      append_assoc so_far.read (takes.x ∷ takes.y ∷ []) (words_at bytes next.end),
      numbers_append so_far.read (takes.x ∷ takes.y ∷ []) so_far.numbers (takes.x_number, (takes.y_number, tt)),
      length-append so_far.read (takes.x ∷ takes.y ∷ []),
      length-append (points_of so_far.read) (point_of takes.x takes.y ∷ []),
    )

-- What adding a point tells of it.
pub record Adds (points after : List Point) (p : Point) (r : Result Added AddFault) : Type 0 where
  pub new : r ≡ Ok New → after ≡ points ++ p ∷ []
  pub new_point : r ≡ Ok New → ¬ Contains points p
  pub repeat : r ≡ Ok Repeat → Contains points p
  pub repeat_kept : r ≡ Ok Repeat → after ≡ points
  pub full : IsErrOf r add.Full → (length points ≡ 50) × ¬ Contains points p
  pub no_room : length points ≡ 50 → ¬ Contains points p → r ≡ Err add.Full

-- a fault is no success
full_is_not_new : (r : Result Added AddFault) → r ≡ Err add.Full → r ≡ Ok New → ⊥
full_is_not_new r full new = cc

-- the point was added
pub read_added : (bytes : List ℕ) (at : ℕ) (points after : List Point) (next : NextPoint) (r : Result Added AddFault) (added : Added)
    → HasRead bytes at points → TakesPoint bytes at next → Adds points after next.point r → r ≡ Ok added → HasRead bytes next.end after
read_added bytes at points after next r New so_far takes adds is =
    let not_full : length points ≢ 50 = λ at_50. full_is_not_new r (adds.no_room at_50 (adds.new_point is)) is in
    read_more bytes at points after next so_far takes
    (adds.new is ∙ ap (λ ps. ps ++ next.point ∷ []) so_far.points_are
    ∙ sym (terminals_of_new (points_of so_far.read) next.point (subst (λ ps. ¬ Contains ps next.point) so_far.points_are (adds.new_point is))))
    (omega (arith, ap length (adds.new is), length-append points (next.point ∷ []), so_far.few))
read_added bytes at points after next r Repeat so_far takes adds is =
    read_more bytes at points after next so_far takes
    (adds.repeat_kept is ∙ so_far.points_are
    ∙ sym (terminals_of_repeat (points_of so_far.read) next.point (subst (λ ps. Contains ps next.point) so_far.points_are (adds.repeat is))))
    (omega (arith, ap length (adds.repeat_kept is), so_far.few))

-- the words that were read raise no fault
read_sound : (bytes : List ℕ) (at : ℕ) (points : List Point) (so_far : HasRead bytes at points) → length (terminals_of (points_of so_far.read)) ≤ 50
read_sound bytes at points so_far = omega (arith, so_far.few, ap length so_far.points_are)

-- nor does one more number
one_more_sound : (bytes : List ℕ) (at : ℕ) (points : List Point) (so_far : HasRead bytes at points) (x : Word) → IsNumber x.bytes → AreSound (so_far.read ++ x ∷ [])
one_more_sound bytes at points so_far x number = record {
  numbers = numbers_append so_far.read (x ∷ []) so_far.numbers (number, tt);
  few = subst (λ ps. length (terminals_of ps) ≤ 50) (sym (points_of-word so_far.read x so_far.even)) (read_sound bytes at points so_far);
}

-- the point wasn't added
pub read_full : (bytes : List ℕ) (at : ℕ) (points after : List Point) (next : NextPoint) (r : Result Added AddFault)
    → HasRead bytes at points → TakesPoint bytes at next → Adds points after next.point r → r ≡ Err add.Full → PointFaultOf bytes (TooManyPoints next.at)
read_full bytes at points after next r so_far takes adds is =
    let more = points_of-point so_far.read takes.x takes.y so_far.even in
    let full = adds.full is in
    let new = terminals_of_new (points_of so_far.read) next.point (subst (λ ps. ¬ Contains ps next.point) so_far.points_are full.1) in
    let together = append_assoc so_far.read (takes.x ∷ []) (takes.y ∷ []) in
    record {
      before = so_far.read ++ takes.x ∷ [];
      word = takes.y;
      after = words_at bytes next.end;
      parts = so_far.parts ∙ ap (λ ws. so_far.read ++ ws) takes.words ∙ sym (append_assoc so_far.read (takes.x ∷ []) (takes.y ∷ words_at bytes next.end));
      sound = one_more_sound bytes at points so_far takes.x takes.x_number;
      fails = record {
        number = takes.y_number;
        front = so_far.read;
        x = takes.x;
        last = refl;
        here = takes.here;
        many = omega (
          arith,
          full.0,
          ap length so_far.points_are,
          ap length new,
          length-append (terminals_of (points_of so_far.read)) (next.point ∷ []),
          ap (λ ws. length (terminals_of (points_of ws))) together,
          ap (λ ps. length (terminals_of ps)) more,
          ap (λ p. length (terminals_of (points_of so_far.read ++ p ∷ []))) takes.point,
        );
      };
    }

-- a word fails after others as it would alone
fails_later : (read : List Word) (word : Word) (fault : PointFault) → FailsAt [] word fault → FailsAt read word fault
fails_later read word (BadNumber at) fails = fails
fails_later read word (NumberTooLarge at) fails = fails
fails_later read word (TooManyPoints at) fails = absurd (omega (arith, ap length fails.last, length-append fails.front (fails.x ∷ [])))
fails_later read word OddCount fails = fails
fails_later read word NoPoints fails = fails
fails_later read word (Memory e) fails = fails

-- Whole points stand before this place, or none do, and they raise no fault.
pub record IsBetweenPoints (bytes : List ℕ) (at : ℕ) : Type 0 where
  pub read : List Word
  pub parts : words_of bytes ≡ read ++ words_at bytes at
  pub numbers : AreNumbers read
  pub even : length read ≡ length (points_of read) + length (points_of read)
  pub few : length (terminals_of (points_of read)) ≤ 50

pub at_front : (bytes : List ℕ) → IsBetweenPoints bytes 0
at_front bytes = record { read = []; parts = refl; numbers = tt; even = refl; few = omega arith }

pub after_points : (bytes : List ℕ) (at : ℕ) (points : List Point) → HasRead bytes at points → IsBetweenPoints bytes at
after_points bytes at points so_far = record {
  read = so_far.read;
  parts = so_far.parts;
  numbers = so_far.numbers;
  even = so_far.even;
  few = read_sound bytes at points so_far;
}

-- one number after them, or none, raises no fault
sound_before : (bytes : List ℕ) (at : ℕ) (between : IsBetweenPoints bytes at) (before : List Word) → AreNumbers before → length before ≤ 1
    → AreSound (between.read ++ before)
sound_before bytes at between [] numbers short = record {
  numbers = numbers_append between.read [] between.numbers numbers;
  few = subst (λ ws. length (terminals_of (points_of ws)) ≤ 50) (sym (append-nil between.read)) between.few;
}
sound_before bytes at between (x ∷ []) numbers short = record {
  numbers = numbers_append between.read (x ∷ []) between.numbers numbers;
  few = subst (λ ps. length (terminals_of ps) ≤ 50) (sym (points_of-word between.read x between.even)) between.few;
}
sound_before bytes at between (x ∷ y ∷ before) numbers short = absurd (omega arith)

-- a word that is no number of 64 bits is the first that fails
stops_first : (bytes : List ℕ) (at : ℕ) (fault : PointFault) → IsBetweenPoints bytes at → StopsAtNumber (words_at bytes at) fault
    → FirstFailure (words_of bytes) fault
stops_first bytes at fault between stops = record {
  before = between.read ++ stops.before;
  word = stops.word;
  after = stops.after;
  parts = between.parts ∙ ap (λ ws. between.read ++ ws) stops.parts ∙ sym (append_assoc between.read stops.before (stops.word ∷ stops.after));
  sound = sound_before bytes at between stops.before stops.numbers stops.short;
  fails = fails_later (between.read ++ stops.before) stops.word fault stops.fails;
}

-- an x without its y is the end
ends_without_y : (bytes : List ℕ) (at : ℕ) → IsBetweenPoints bytes at → EndsAfterX (words_at bytes at) → EndsWithoutY (words_of bytes)
ends_without_y bytes at between ends =
    let words : words_of bytes ≡ between.read ++ ends.x ∷ [] = between.parts ∙ ap (λ ws. between.read ++ ws) ends.alone in
    let points = points_of-word between.read ends.x between.even in
    subst EndsWithoutY (sym words) (record {
      sound = sound_before bytes at between (ends.x ∷ []) (ends.number, tt) (omega arith);
      odd = omega (arith, length-append between.read (ends.x ∷ []), between.even, ap length points);
    })

-- what stops the reader between points is the text's fault
pub stops_with_cause : (bytes : List ℕ) (at : ℕ) (fault : PointFault) → IsBetweenPoints bytes at → StopsBeforePoint (words_at bytes at) fault
    → HasPointCause fault bytes
stops_with_cause bytes at (BadNumber place) between stops = stops_first bytes at (BadNumber place) between stops
stops_with_cause bytes at (NumberTooLarge place) between stops = stops_first bytes at (NumberTooLarge place) between stops
stops_with_cause bytes at (TooManyPoints place) between stops = absurd stops
stops_with_cause bytes at OddCount between stops = ends_without_y bytes at between stops
stops_with_cause bytes at NoPoints between stops = absurd stops
stops_with_cause bytes at (Memory e) between stops = tt

-- a point that isn't added is the text's fault
pub adding_has_cause : (bytes : List ℕ) (at : ℕ) (points after : List Point) (next : NextPoint) (r : Result Added AddFault) (why : AddFault) (fault : PointFault)
    → HasRead bytes at points → TakesPoint bytes at next → Adds points after next.point r → r ≡ Err why
    → (why ≡ add.Full → fault ≡ TooManyPoints next.at) → ((e : AllocError) → why ≡ add.Memory e → fault ≡ Memory e) → HasPointCause fault bytes
adding_has_cause bytes at points after next r add.Full fault so_far takes adds is full memory =
    rw (full refl) (read_full bytes at points after next r so_far takes adds is)
adding_has_cause bytes at points after next r (add.Memory e) fault so_far takes adds is full memory = rw (memory e refl) tt

-- the answer is the only one
pub only_points : (bytes : List ℕ) (r : Result (List Point) PointFault) → AnswersPoints bytes r → (ps : List Point) → IsPointText bytes ps
    → MatchResult r (λ points. points ≡ terminals_of ps) IsMemory
only_points bytes (Ok points) answers ps lists = answers.2 ∙ ap terminals_of (answers.1.points ∙ sym lists.points)
only_points bytes (Err (BadNumber at)) answers ps lists = listed_no_fault bytes ps (BadNumber at) lists answers
only_points bytes (Err (NumberTooLarge at)) answers ps lists = listed_no_fault bytes ps (NumberTooLarge at) lists answers
only_points bytes (Err (TooManyPoints at)) answers ps lists = listed_no_fault bytes ps (TooManyPoints at) lists answers
only_points bytes (Err OddCount) answers ps lists = listed_no_fault bytes ps OddCount lists answers
only_points bytes (Err NoPoints) answers ps lists = listed_no_fault bytes ps NoPoints lists answers
only_points bytes (Err (Memory e)) answers ps lists = tt

pub only_fault : (bytes : List ℕ) (r : Result (List Point) PointFault) → AnswersPoints bytes r → (fault : PointFault) → PointFaultOf bytes fault
    → IsErrAnd r (λ told. IsMemory told ⊎ (told ≡ fault))
only_fault bytes (Ok points) answers fault fails = listed_no_fault bytes answers.0 fault answers.1 fails
only_fault bytes (Err (BadNumber at)) answers fault fails = inr (one_fault bytes (BadNumber at) fault answers fails)
only_fault bytes (Err (NumberTooLarge at)) answers fault fails = inr (one_fault bytes (NumberTooLarge at) fault answers fails)
only_fault bytes (Err (TooManyPoints at)) answers fault fails = inr (one_fault bytes (TooManyPoints at) fault answers fails)
only_fault bytes (Err OddCount) answers fault fails = inr (one_fault bytes OddCount fault answers fails)
only_fault bytes (Err NoPoints) answers fault fails = inr (one_fault bytes NoPoints fault answers fails)
only_fault bytes (Err (Memory e)) answers fault fails = inl tt
