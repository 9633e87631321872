use Rattle.std.proofs.Common.{◌≡◌, ◌++◌, length, length-append, take, sym, ap, ◌∙◌, subst, arith}
use Rattle.std.proofs.lemmas.List.{append-nil, take_all, take_more}
use Rattle.cert_check.specs.Checking.{StandsForBytesIn}
use Rattle.cert_check.proofs.lemmas.Bytes.{follows_settled}
use Rattle.cert_check.proofs.checker.Checker.feed_some.Goals as goal

pub returns-then-is_settled-clause-feeds : goal.returns-then-is_settled-clause-feeds
returns-then-is_settled-clause-feeds c N bytes stands =
    let old = c.args.self.now in
    let more = take (length c.args.piece.now) c.args.piece.now in
    let count = ap length (take_all (length c.args.piece.now) c.args.piece.now (omega arith)) in
    record {
      subject = stands.subject;
      fed = omega (arith, c.saturating_add-self.ensures, stands.fed, length-append bytes more, count);
      follows = follows_settled N bytes more old.fed old.reader old.judge old.fault stands.fed
          (c.is_settled.ensures.0 c.if-is_settled.true) stands.follows;
    }

pub returns-clause-feeds : goal.returns-clause-feeds
returns-clause-feeds c N bytes stands =
    let piece = c.args.piece.now in
    let middle = c.feed_digits-digits.new.self in
    let none : c.feed_digits-digits.result ≡ 0 = omega (arith, c.if-digits-gt0.false) in
    let same : bytes ++ take c.feed_digits-digits.result piece ≡ bytes =
    ap (λ n. bytes ++ take n piece) none ∙ append-nil bytes in
    let before = subst (λ xs. StandsForBytesIn N xs middle) same (c.feed_digits-digits.ensures.feeds N bytes stands) in
    subst (λ xs. StandsForBytesIn N (bytes ++ xs) c.feed_byte.new.self) (sym (take_more piece 0 0 c.requires))
    (c.feed_byte.ensures N bytes before)
