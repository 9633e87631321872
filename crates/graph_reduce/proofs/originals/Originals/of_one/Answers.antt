use Rattle.std.proofs.Common.{◌++◌, ◌∷◌, [], ap, ◌∙◌}
use Rattle.graph_reduce.specs.Originals.{flags_of}
use Rattle.graph_reduce.proofs.lemmas.Originals.{flags_of_one}
use Rattle.graph_reduce.proofs.originals.Originals.of_one.Goals as goal

pub returns : goal.returns
returns c = ap (flags_of c.args.size) (c.in_ok-push.ensures.items
    ∙ ap (λ ns. ns ++ c.args.n ∷ []) c.in_ok-numbers.ensures.items) ∙ flags_of_one c.args.size c.args.n c.requires
