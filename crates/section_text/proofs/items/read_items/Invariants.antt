use Rattle.std.specs.Prelude.{ℕ, ◌≡◌, ◌+◌, [], length}
use Rattle.section_text.specs.Faults.{items}
use Rattle.section_text.specs.Left.{LeadsTo}
use Rattle.section_text.proofs.items.read_items.Given as goal

abbrev pub invariant-loop-told : goal.invariant-loop-told
invariant-loop-told g l =
    let fm = g.S.SectionFormat.format in
    let ps = g.S.SectionFormat.points_of l.basis in
    record {
      count_is : length l.items ≡ l._told;
      right : fm.AreItems ps l.items;
      leads : (due : ℕ) → due + l._told ≡ l.count → LeadsTo fm (items ps l.count []) l.fn.text (items ps due l.items) l.text;
    }
