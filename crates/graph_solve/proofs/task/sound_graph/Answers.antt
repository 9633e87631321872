use Rattle.std.proofs.lemmas.Option.{slice_get_within, get_or_from_slice_get}
use Rattle.std.proofs.Common.{ap, sym, ◌∙◌, subst, arith}
use Rattle.std.specs.Prelude.{All, ◌<◌}
use Rattle.net_graph.specs.Graph.{graph_of}
use Rattle.net_graph.specs.Fault.{IsFirstFault}
use Rattle.graph_solve.proofs.lemmas.Parts.{terminals-left, HasLengths-from_edges, total-edges, IsFirstWithoutLength-from_edges}
use Rattle.graph_solve.proofs.task.sound_graph.Goals as goal

pub unreachable-requires-in-Err-NoTerminal : goal.unreachable-requires-in-Err-NoTerminal
unreachable-requires-in-Err-NoTerminal c =
    grind (arith, graph_of c.nodes.result c.args.edges c.args.terminals, terminals-left, c.in-Err-NoTerminal.ensures.fault, c.requires.file.terminal, c.requires.terminals)

pub unreachable-requires-in-Err-TerminalOutOfRange : goal.unreachable-requires-in-Err-TerminalOutOfRange
unreachable-requires-in-Err-TerminalOutOfRange c =
    let fault = subst (IsFirstFault (graph_of c.nodes.result c.args.edges c.args.terminals))
    c.in-Err-TerminalOutOfRange.field-0-is c.in-Err-TerminalOutOfRange.ensures.fault in
    let below = subst (λ nodes. All (λ t. t < nodes) c.args.terminals) (sym c.nodes.ensures.value) c.requires.vertices in
    grind (arith, below c.in-Err-TerminalOutOfRange.field-0-0 0 (slice_get_within c.args.terminals c.in-Err-TerminalOutOfRange.field-0-0 fault.1.here.0 fault.1.here.1), get_or_from_slice_get c.args.terminals c.in-Err-TerminalOutOfRange.field-0-0 fault.1.here.0 0 fault.1.here.1)

pub returns-in-Ok-clause-lengths : goal.returns-in-Ok-clause-lengths
returns-in-Ok-clause-lengths c =
    HasLengths-from_edges c.args.file.now c.in-Ok.graph.edges c.requires.file
    (ap (λ g. g.edges) c.in-Ok.ensures.ok ∙ c.requires.edges) c.in-Ok.ensures.graph.lengths

pub returns-in-Err-ZeroLength-clause-fault : goal.returns-in-Err-ZeroLength-clause-fault
returns-in-Err-ZeroLength-clause-fault c =
    let fault = subst (IsFirstFault (graph_of c.nodes.result c.args.edges c.args.terminals))
    c.in-Err-ZeroLength.field-0-is c.in-Err-ZeroLength.ensures.fault in
    (c.requires.file, IsFirstWithoutLength-from_edges c.args.file.now c.args.edges c.in-Err-ZeroLength.e c.requires.edges fault.1)

pub returns-in-Err-TooLong-clause-fault : goal.returns-in-Err-TooLong-clause-fault
returns-in-Err-TooLong-clause-fault c =
    let fault = subst (IsFirstFault (graph_of c.nodes.result c.args.edges c.args.terminals))
    c.in-Err-TooLong.field-0-is c.in-Err-TooLong.ensures.fault in (
      HasLengths-from_edges c.args.file.now c.args.edges c.requires.file c.requires.edges fault.0.edges.lengths,
      fault.1 ∙ total-edges c.args.file.now c.args.edges c.requires.edges,
      fault.2,
    )
