-- Bytes that cease to spell an answer are refused by their line.
use Rattle.std.proofs.Common.{List, ℕ, ap, ◌∙◌, subst}
use Rattle.net_graph.specs.Graph.{Graph}
use Rattle.tool_frame.specs.Outside.{readable}
use Rattle.answer_upgrade.specs.declared.told.Spelled.TheVariants.{Fault}
use Rattle.answer_upgrade.specs.Spelling.{TellsSpelling}
use Rattle.judge_tools.proofs.Upgrades.{taken_misspelled}
use Rattle.judge_tools.proofs.upgrading.take_answer.Goals as goal

pub returns-clause-takes : goal.returns-clause-takes
returns-clause-takes g c =
    let reads = rw c.in_ok-grid.ensures at c.grid_in_file.ensures.reads in
    let whole = rw c.in_ok-bytes.ensures at c.whole_input.ensures.takes in
    let stops = rw c.in-Fault.is at c.in_ok-spelled.ensures in
    taken_misspelled c.args.points_name.now
    (readable (g.I.Source.state c.args.input.now) (g.S.Shelf.state c.args.shelf.now))
    (readable (g.I.Source.state c.whole_input.new.input) (g.S.Shelf.state c.grid_in_file.new.shelf))
    c.in_ok-grid.grid c.vertex_count-vertices.result c.in-Fault.line c.in_ok-bytes.bytes.items reads whole
    (c.vertex_count-vertices.ensures.count ∙ ap (λ (h : Graph). h.vertices) c.graph.ensures.graph)
    (subst (λ (b : List ℕ). TellsSpelling c.vertex_count-vertices.result b (Fault c.in-Fault.line)) c.as_slice.ensures.value stops)
