use Rattle.text_out.specs.GatherLaws.{gathers_three}
use Rattle.printed_texts.proofs.lemmas.Sections.{same_sections}
use Rattle.printed_texts.proofs.grid.write_sections.Goals as goal

pub returns : goal.returns
returns g c =
    gathers_three _ _ _ _ _ _ _ _ _ _ _ _ c.write_graph.ensures c.write_terminals.ensures c.write_vertices.ensures
    (same_sections c.args.grid.now c.graph.result.now c.graph-2.result.now c.graph.ensures.graph c.graph-2.ensures.graph)
