use Rattle.std.proofs.Common.{◌≤◌, vec_len, vec_capacity}
use Rattle.dual_ascent.proofs.lemmas.RequiredLemmas.{RequiredBelow}
use Rattle.dual_ascent.proofs.required.required_in.Given as goal

abbrev pub invariant-loop-v : goal.invariant-loop-v
invariant-loop-v l = RequiredBelow l.g l.d l.v l.list.items × (vec_len l.list ≤ l.v) × (l.count ≤ vec_capacity l.list)
