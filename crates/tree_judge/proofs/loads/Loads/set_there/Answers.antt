use Rattle.std.proofs.Common.{ℕ, ◌<◌, length, get_or, set, refl, ap, ◌∙◌, arith, length-set}
use Rattle.std.proofs.lemmas.List.{get_or-set_same, get_or-set_other}
use Rattle.tree_judge.specs.ArcLoads.{ArcLoads, both_loads}
use Rattle.tree_judge.proofs.lemmas.ArcLoads.{AreLoads-more, AreLoads-same, OthersStay, none_loaded, room_for}
use Rattle.tree_judge.proofs.loads.Loads.set_there.Goals as goal
use Rattle.tree_judge.proofs.loads.Loads.set_there.Goals.{then-load-gt0+then-not-is_loaded, else-load-gt0, else-load-gt0-via-then-load-gt0+else-not-is_loaded, else-load-gt0-via-else-load-gt0}

pub push_reserved-requires : goal.push_reserved-requires
push_reserved-requires c =
    grind (arith, none_loaded (both_loads c.args.self.now.there c.args.self.now.back c.args.n) c.if-not-is_loaded.ensures.1, room_for)

pub invariant_of-self : goal.invariant_of-self
invariant_of-self c =
    let there = c.self.inside.there in
    let back = c.self.inside.back in
    let listed = c.self.inside.listed.items in
    let n : ℕ = c.args.n in
    let load : ℕ = c.args.load in
    let within : n < length there =
    omega (arith, c.requires.edge, ap (λ (o : ArcLoads). length o.there) c.self.view_is, c.self.invariant.size) in
    let both = ap (λ (o : ArcLoads). both_loads o.there o.back n) c.self.view_is in
    let written = get_or-set_same there n load 0 within in
    let others : OthersStay there back (set there n load) back n = λ m apart. omega (arith, get_or-set_other there n m load 0 apart) in
    let less = ap (λ (o : ArcLoads). get_or o.there n 0) c.self.view_is in
    elim c.if-load-gt0.branch [
      | then-load-gt0+then-not-is_loaded w ↦
          let none = both ∙ none_loaded (both_loads c.args.self.now.there c.args.self.now.back n) w.if-not-is_loaded.ensures.1 in
          rw (c.set.ensures, w.self-inside-is)
          (AreLoads-more there back (set there n load) back listed _ _ _ n c.self.invariant (length-set there n load) refl others none
          (omega (arith, written)) w.push_reserved.ensures.items w.push_reserved.ensures.capacity)
      | else-load-gt0 w ↦ elim w.else-load-gt0.branch [
        | else-load-gt0-via-then-load-gt0+else-not-is_loaded v ↦
            let some = v.is_loaded.ensures.0 v.if-not-is_loaded.false in
            rw (c.set.ensures, w.self-inside-is)
            (AreLoads-same there back (set there n load) back listed listed _ _ n c.self.invariant (length-set there n load) refl others
            (λ _. omega (arith, written), λ _. omega (arith, some, both)) refl refl)
        | else-load-gt0-via-else-load-gt0 v ↦
            rw (c.set.ensures, w.self-inside-is)
            (AreLoads-same there back (set there n load) back listed listed _ _ n c.self.invariant (length-set there n load) refl others
            (λ some. omega (arith, written, some, less, c.requires.more), λ some. omega (arith, written, some, less, c.requires.more)) refl refl)
      ]
    ]
