-- How the writes of one text after another add up.
use Rattle.std.specs.Prelude.{ℕ, ◌≡◌, ◌+◌, ◌≤◌, List, [], ◌++◌, length, take, Option, None, Some}
use Rattle.std.proofs.Common.{refl, ap, sym, ◌∙◌, append_assoc, length-append, length-take, arith}
use Rattle.std.proofs.lemmas.List.{append-nil}
use Rattle.rst_outside.specs.CountLaws.{rose_later}
use Rattle.rst_outside.specs.Sink.{SinkState, Appended, Wrote, CutShort}

-- Nothing was appended where what was taken stayed the same.
pub appended_nothing : (before after : Option (List ℕ)) → after ≡ before → Appended before [] after
appended_nothing None after same = tt
appended_nothing (Some taken) after same = same ∙ ap Some (sym (append-nil taken))

-- What was appended first and what was appended next was appended.
pub appended_more : (before : Option (List ℕ)) (first next : List ℕ) (mid after : Option (List ℕ)) →
    Appended before first mid → Appended mid next after → Appended before (first ++ next) after
appended_more None first next mid after one two = tt
appended_more (Some taken) first next mid after one two =
    let whole = rw one at two in whole ∙ ap Some (append_assoc taken first next)

-- Where the sink stayed as it was, the empty text was written.
pub wrote_nothing : (state : SinkState) → Wrote state [] state
wrote_nothing state = record {
  appended = appended_nothing state.taken state.taken refl;
  count = omega arith;
  room = omega arith;
}

-- What a sink says of a write that took the first n bytes, as one fact.
pub wrote_some : (before : SinkState) (text : List ℕ) (n : ℕ) (after : SinkState) →
    n ≤ length text → Appended before.taken (take n text) after.taken → before.faults ≤ after.faults →
    before.sure ≤ after.sure + n → Wrote before (take n text) after
wrote_some before text n after within appended count room = record {
  appended = appended;
  count = count;
  room = omega (arith, length-take n text);
}

-- One text after another is the two together.
pub wrote_more : (before : SinkState) (first : List ℕ) (mid : SinkState) (next : List ℕ) (after : SinkState) →
    Wrote before first mid → Wrote mid next after → Wrote before (first ++ next) after
wrote_more before first mid next after one two = record {
  appended = appended_more before.taken first next mid.taken after.taken one.appended two.appended;
  count = omega arith;
  room = omega (arith, length-append first next);
}

-- A text is cut short where its first part was written and the rest of it cut short.
pub cut_later : (before : SinkState) (first : List ℕ) (mid : SinkState) (next : List ℕ) (after : SinkState) →
    Wrote before first mid → CutShort mid next after → CutShort before (first ++ next) after
cut_later before first mid next after one two =
    let (front, back, parts, some, taken) = two.prefix in
    record {
      prefix = (
        first ++ front,
        back,
        ap (λ x. first ++ x) parts ∙ sym (append_assoc first front back),
        some,
        appended_more before.taken first front mid.taken after.taken one.appended taken,
      );
      count = omega arith;
      rose = rose_later before.faults mid.faults after.faults one.count two.rose;
      no_room = omega (arith, length-append first next);
    }

-- A text that was cut short is no less so as the first part of a longer one.
pub cut_sooner : (before : SinkState) (first : List ℕ) (after : SinkState) (next : List ℕ) →
    CutShort before first after → CutShort before (first ++ next) after
cut_sooner before first after next cut =
    let (front, back, parts, some, taken) = cut.prefix in
    record {
      prefix = (
        front,
        back ++ next,
        ap (λ x. x ++ next) parts ∙ append_assoc front back next,
        omega (arith, length-append back next),
        taken,
      );
      count = cut.count;
      rose = cut.rose;
      no_room = omega (arith, length-append first next);
    }
