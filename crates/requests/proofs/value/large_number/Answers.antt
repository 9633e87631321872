use Rattle.std.proofs.Common.{◌∙◌}
use Rattle.std.specs.Str.Parse.{ExplainsUnsignedError, HasUnsignedDigitsIfOk, ParsesUnsigned}
use Rattle.clap.specs.Words.{found_of, one_of, rows_of}
use Rattle.clap.proofs.WalkLemmas.{one_text-rows}
use Rattle.requests.specs.Values.{number_of}
use Rattle.requests.proofs.ValueLaws.{number_reads, reads}
use Rattle.requests.proofs.value.large_number.Goals as goal

pub returns : goal.returns
returns c =
    let same = one_text-rows (found_of c.args.matches.now) c.args.id.now in
    reads (number_of 64) (one_of c.args.id.now (rows_of (found_of c.args.matches.now))) c.get_one.result
    (λ e. c.get_one.ensures.none (same ∙ e))
    (λ t e. number_reads 64 t c.get_one.result (λ bs r. ParsesUnsigned 64 10 bs r × ExplainsUnsignedError 10 bs r × HasUnsignedDigitsIfOk bs r)
    (λ u x g. g.0) (c.get_one.ensures.value t (same ∙ e)))
