-- A leaf can be split exactly where its value is below the length and it has a saturated end.
use Rattle.std.proofs.Common.{◌<◌, ◌↔◌, IsTrue, sym, subst, arith}
use Rattle.std.proofs.lemmas.Bool.{ltb-true}
use Rattle.branch.specs.Searching.{SearchState, CanSplitAt}
use Rattle.branch.proofs.lemmas.ReaderLemmas.{note_within, is_decided, rooms_size, can_split, has_end}
use Rattle.branch.proofs.branch_and_bound.Search.splits_at.Goals as goal

pub index-note-requires : goal.index-note-requires
index-note-requires _ c = grind (arith, note_within)

pub has_saturated_end-requires-clause-decision : goal.has_saturated_end-requires-clause-decision
has_saturated_end-requires-clause-decision _ c =
    let within = note_within _ _ _ c.args.leaf c.self.invariant c.self.view_is c.requires.leaf in
    (is_decided _ _ c.args.leaf c.index-note.result.now c.self.invariant within c.index-note.ensures).0

pub has_saturated_end-requires-clause-costs : goal.has_saturated_end-requires-clause-costs
has_saturated_end-requires-clause-costs _ c =
    let within = note_within _ _ _ c.args.leaf c.self.invariant c.self.view_is c.requires.leaf in
    rooms_size _ _ c.args.leaf c.index-note.result.now c.self.invariant within c.index-note.ensures

pub returns-then-note-from : goal.returns-then-note-from
returns-then-note-from _ c =
    let within = note_within _ _ _ c.args.leaf c.self.invariant c.self.view_is c.requires.leaf in
    let low : c.index-note.result.now.value < c.self.inside.kept.best.length =
    let below = c.if-note-from.true in let from = c.from.ensures in omega arith in
    subst (λ (s : SearchState). IsTrue c.has_saturated_end.result ↔ CanSplitAt s c.args.leaf c.args.vertex) c.self.view_is (
      λ yes. can_split _ _ c.args.leaf c.index-note.result.now c.self.invariant within c.index-note.ensures
          c.args.vertex low (c.has_saturated_end.ensures.0 yes),
      λ can. c.has_saturated_end.ensures.1 (has_end _ _ c.args.leaf c.index-note.result.now c.self.invariant within
          c.index-note.ensures c.args.vertex can).1,
    )

pub returns-else-note-from : goal.returns-else-note-from
returns-else-note-from _ c = (
  λ yes. absurd (let below = ltb-true c.index-note.result.now.value c.from.result yes in
      let past = c.if-note-from.false in omega arith),
  λ can. absurd (
      let within = note_within _ _ _ c.args.leaf c.self.invariant c.self.view_is c.requires.leaf in
      let own = subst (λ (s : SearchState). CanSplitAt s c.args.leaf c.args.vertex) (sym c.self.view_is) can in
      let low = (has_end _ _ c.args.leaf c.index-note.result.now c.self.invariant within c.index-note.ensures
      c.args.vertex own).0 in
      let past = c.if-note-from.false in let from = c.from.ensures in omega arith),
)
