use Rattle.std.proofs.Common.{◌≡◌, true, [], ◌++◌, length, take, refl, sym, ap, ◌∙◌, subst, append_assoc, arith}
use Rattle.std.specs.Prelude.{◌==◌}
use Rattle.std.proofs.lemmas.Bool.Decides.{nat_tests}
use Rattle.std.proofs.lemmas.List.{append-nil, nil_from_length}
use Rattle.rst_outside.specs.FedLaws.{moved_on}
use Rattle.cert_check.specs.Checking.{StandsForBytesIn}
use Rattle.cert_check.proofs.checker.Checker.feed.Goals as goal

pub loop-rest-init : goal.loop-rest-init
loop-rest-init c = (
  [],
  refl,
  (λ N bytes stands. subst (λ xs. StandsForBytesIn N xs c.args.self.now) (sym (append-nil bytes)) stands),
)

pub loop-rest-preserved : goal.loop-rest-preserved
loop-rest-preserved c =
    let (front, parts, stands) = c.loop-rest.invariant in
    let rest = c.loop-rest.rest.now in
    let n = c.feed_some-taken.result in
    let new = c.feed_some-taken.new.self in
    let feeds = c.feed_some-taken.ensures.feeds in (
      front ++ take n rest,
      parts ∙ moved_on front rest n,
      (λ N bytes before. subst (λ xs. StandsForBytesIn N xs new) (append_assoc bytes front (take n rest))
          (feeds N (bytes ++ front) (stands N bytes before))),
    )

pub returns : goal.returns
returns c N bytes before =
    let (front, parts, stands) = c.loop-rest.invariant in
    let rest = c.loop-rest.rest.now in
    let test : (length rest == 0) ≡ true = sym c.is_empty.ensures ∙ c.loop-rest-test.false in
    let none : length rest ≡ 0 = grind (arith, nat_tests) in
    let whole = parts ∙ ap (λ xs. front ++ xs) (nil_from_length rest none) ∙ append-nil front in
    subst (λ xs. StandsForBytesIn N (bytes ++ xs) c.loop-rest.self) (sym whole) (stands N bytes before)
