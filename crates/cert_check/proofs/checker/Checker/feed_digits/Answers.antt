use Rattle.std.proofs.Common.{ℕ, zero, suc, ◌≡◌, ◌+◌, ◌≤◌, List, [], ◌∷◌, ◌++◌, length, length-append, take, None, refl, sym, ap, subst, arith}
use Rattle.std.specs.Prelude.{Option, Some, IfNone}
use Rattle.std.proofs.lemmas.List.{length-take-le}
use Rattle.std.proofs.Math.Logic.{∥∥₁_map}
use Rattle.answer_text.specs.Reader.{Reads}
use Rattle.cert_check.specs.Named.{named_of}
use Rattle.cert_check.specs.Verdicts.{byte_limit}
use Rattle.cert_check.specs.Underway.{Follows}
use Rattle.cert_check.proofs.lemmas.Bytes.{follows_read, follows_before}
use Rattle.cert_check.proofs.checker.Checker.feed_digits.Goals as goal

-- the first of the first ones
take_of_take : (n m : ℕ) (xs : List ℕ) → n ≤ m → take n (take m xs) ≡ take n xs
take_of_take zero m xs few = refl
take_of_take (suc n) zero xs few = absurd (omega arith)
take_of_take (suc n) (suc m) [] few = refl
take_of_take (suc n) (suc m) (x ∷ xs) few = ap (λ ys. x ∷ ys) (take_of_take n m xs (omega arith))

-- what follows from a fact where there is no value holds there
none_map : {X P Q : Type 0} (x : Option X) → (P → Q) → IfNone x P → IfNone x Q
none_map None f p = f p
none_map (Some x) f p = tt

pub invariant_of-self : goal.invariant_of-self
invariant_of-self c =
    let old = c.args.self.now in
    let F = (named_of old.subject).form in
    let taken = c.feed_digits-taken.ensures in
    record {
      underway = record {
        sizes = old.underway.sizes;
        few = omega (arith, old.underway.few, taken.fed);
        reads = none_map old.fault (λ known. ∥∥₁_map known (λ r. (_, r.1, taken.reads F r.0 r.1 r.2)))
            old.underway.reads;
      };
    }

pub returns-clause-feeds : goal.returns-clause-feeds
returns-clause-feeds c N bytes stands =
    let old = c.args.self.now in
    let piece = c.args.piece.now in
    let room = c.min-room.result in
    let taken = c.feed_digits-taken.result in
    let new = c.feed_digits-taken.new.self in
    let digits = take taken piece in
    let first : length (take room piece) ≡ room = length-take-le room piece (omega (arith, c.min-room.ensures)) in
    let within : taken ≤ room = omega (arith, c.feed_digits-taken.ensures.few, first) in
    let few : old.fed + taken ≤ byte_limit = omega (arith, within, c.min-room.ensures, c.requires.room) in
    let count : length digits ≡ taken = length-take-le taken piece (omega (arith, within, c.min-room.ensures)) in
    let (events, s, reads, passes, judged) =
    subst (Follows N bytes old.reader old.judge) c.requires.right
    (follows_before N bytes old.fed old.reader old.judge old.fault stands.fed c.requires.room stands.follows) in
    let F = N.form in
    let read = subst (λ xs. Reads F (bytes ++ xs) events new) (take_of_take taken room piece within)
    (c.feed_digits-taken.ensures.reads F bytes events reads) in
    let after = subst (Follows N (bytes ++ digits) new old.judge) (sym c.requires.right)
    (events, s, read, passes, judged) in
    record {
      subject = stands.subject;
      fed = omega (arith, stands.fed, few, count, length-append bytes digits);
      follows = follows_read N bytes digits old.fed new old.judge old.fault stands.fed (omega (arith, count, few))
          after;
    }
