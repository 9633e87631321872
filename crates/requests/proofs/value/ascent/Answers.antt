use Rattle.std.proofs.Common.{codes, arith}
use Rattle.clap.specs.Words.{found_of, one_of, rows_of}
use Rattle.clap.proofs.WalkLemmas.{one_text-rows}
use Rattle.search_rules.specs.Names.{ascent_named}
use Rattle.requests.proofs.ValueLaws.{named_reads, reads}
use Rattle.requests.proofs.value.ascent.Goals as goal

pub returns : goal.returns
returns c =
    grind (arith, one_text-rows (found_of c.args.matches.now) (codes "ascent"), reads, ascent_named, one_of (codes "ascent") (rows_of (found_of c.args.matches.now)), named_reads, c.get_one.ensures.none, c.get_one.ensures.value)
