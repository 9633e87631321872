use Rattle.std.proofs.Common.{arith}
use Rattle.clap.specs.Words.{found_of, one_of, rows_of}
use Rattle.clap.proofs.WalkLemmas.{one_text-rows}
use Rattle.requests.specs.Values.{truth_of}
use Rattle.requests.proofs.ValueLaws.{reads, truth_reads}
use Rattle.requests.proofs.value.flag.Goals as goal

pub returns : goal.returns
returns c =
    grind (arith, one_text-rows (found_of c.args.matches.now) c.args.id.now, reads, truth_of, one_of c.args.id.now (rows_of (found_of c.args.matches.now)), truth_reads, c.get_one.ensures.none, c.get_one.ensures.value)
