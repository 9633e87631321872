-- All entries were written in their order.
use Rattle.std.specs.Prelude.{ℕ, ◌≡◌, List, [], ◌∷◌, ◌++◌, map, flat_map}
use Rattle.std.specs.Borrow.{Bor}
use Rattle.std.specs.Map.Iter.{deref_pair}
use Rattle.std.proofs.Common.{refl, ap, sym, subst, rules, ◌∙◌}
use Rattle.std.proofs.lemmas.List.Concat.{flat_map-cons}
use Rattle.std.proofs.lemmas.Map.Iter.{iter_end}
use Rattle.points_in.specs.declared.point.Point.{Point}
use Rattle.text_out.specs.Gathers.{Gathers}
use Rattle.stp_text.specs.Lines.{located_line}
use Rattle.stp_format.proofs.write.write_point_lines.Goals as goal

-- the lines of entries that were lent
lent_lines : (ps : List (Bor ℕ × Bor Point)) → flat_map (λ p. located_line p.0.now p.1.now) ps ≡ flat_map (λ l. located_line l.0 l.1) (map deref_pair ps)
lent_lines [] = refl
lent_lines (p ∷ ps) =
    flat_map-cons (λ q. located_line q.0.now q.1.now) p ps ∙ ap (λ t. located_line p.0.now p.1.now ++ t) (lent_lines ps)
    ∙ sym (flat_map-cons (λ l. located_line l.0 l.1) (deref_pair p) (map deref_pair ps))

pub returns : goal.returns
returns g c =
    let all : map deref_pair c.loop-node.yielded ≡ c.args.points.now.entries = search (rules, iter_end) in
    subst (λ t. Gathers (g.S.Sink.state c.args.sink.now) c.args.block.now t (g.S.Sink.state c.loop-node.sink) c.loop-node.block)
    (lent_lines c.loop-node.yielded ∙ ap (flat_map (λ l. located_line l.0 l.1)) all) c.loop-node.invariant
