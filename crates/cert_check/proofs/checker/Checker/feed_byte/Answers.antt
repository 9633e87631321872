use Rattle.std.proofs.Common.{length-append, ◌∷◌, [], ◌++◌, None, sym, subst, arith}
use Rattle.cert_check.specs.Underway.{Follows}
use Rattle.cert_check.proofs.lemmas.Bytes.{follows_read, follows_before}
use Rattle.cert_check.proofs.checker.Checker.feed_byte.Goals as goal

pub returns : goal.returns
returns c N bytes stands =
    let old = c.args.self.now in
    let few = c.requires.room in
    let before = subst (Follows N bytes old.reader old.judge) c.requires.right
    (follows_before N bytes old.fed old.reader old.judge old.fault stands.fed few stands.follows) in
    let behind = c.read_byte-self.ensures.follows bytes (subst (λ x. Follows x bytes old.reader old.judge None) (sym stands.subject) before) in
    let after = subst (λ x. Follows x (bytes ++ c.args.byte ∷ []) c.read_byte-self.new.reader c.read_byte-self.new.judge c.read_byte-self.result) stands.subject behind in
    record {
      subject = stands.subject;
      fed = omega (arith, stands.fed, few, length-append bytes (c.args.byte ∷ []));
      follows = follows_read N bytes (c.args.byte ∷ []) old.fed c.read_byte-self.new.reader c.read_byte-self.new.judge
          c.read_byte-self.result stands.fed (omega arith) after;
    }
