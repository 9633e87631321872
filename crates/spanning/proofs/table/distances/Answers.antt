use Rattle.std.proofs.Common.{◌≡◌, ◌+◌, ◌*◌, ◌/◌, ◌%◌, ◌∙◌, length, subst, ap, arith}
use Rattle.std.proofs.lemmas.List.{length_push}
use Rattle.hanan_grid.specs.Distance.{distance_of}
use Rattle.spanning.specs.Bottleneck.{entry}
use Rattle.spanning.proofs.lemmas.Rows.{pushed, entry-from_place}
use Rattle.spanning.proofs.table.distances.Goals as goal

pub loop-place-preserved : goal.loop-place-preserved
loop-place-preserved c =
    let ps = c.args.grid.now in
    let n = c.len-n.result in
    let place = c.loop-place.place in
    let old = c.loop-place.lengths.items in (
      ap length c.push_reserved.ensures.items ∙ length_push old c.distance.result ∙ ap (λ k. k + 1) c.loop-place.invariant.0,
      rw c.push_reserved.ensures.items (pushed (λ k. distance_of ps (k / n) (k % n)) old place c.distance.result c.loop-place.invariant.0 c.loop-place.invariant.1 c.distance.ensures.distance),
    )

pub returns : goal.returns
returns c =
    let ps = c.args.grid.now in
    let n_is : c.len-n.result ≡ length ps = c.len-n.ensures.value ∙ ap length c.points.ensures in
    let all : c.loop-place.place ≡ c.len-n.result * c.len-n.result = omega arith in
    record {
      size = c.loop-place.invariant.0 ∙ all ∙ ap (λ n. n * n) n_is;
      each = λ i j i_in j_in. subst (λ n. entry c.loop-place.lengths.items n i j ≡ distance_of ps i j) n_is
          (entry-from_place (distance_of ps) c.loop-place.lengths.items c.len-n.result i j (omega (arith, n_is)) (omega (arith, n_is))
          (λ k below. c.loop-place.invariant.1 k (omega (arith, all))));
    }
