-- The format of points and boxes is settled.
use Rattle.std.specs.Prelude.{ℕ, ◌≡◌, ◌<◌, ◌≤◌, List, ◌∷◌, ◌++◌, length, All, Any}
use Rattle.std.proofs.Common.{arith, sym, ◌∙◌, subst, inl, inr}
use Rattle.std.proofs.lemmas.List.{length-append}
use Rattle.std.proofs.lemmas.List.Elements.{All-nil, All-push}
use Rattle.std.proofs.Math.Seq.{get_or-append_seam}
use Rattle.points_in.specs.declared.point.Point.{Point}
use Rattle.section_text.specs.Format.{IsLawful}
use Rattle.obstacles_in.specs.declared.rectangle.Rectangle.{Rectangle}
use Rattle.obstacles_in.specs.declared.fault.ObstacleFault.{ObstacleFault}
use Rattle.obstacles_in.specs.Obstacles.{IsBox, IsInside, crossing_count}
use Rattle.obstacles_in.specs.Faults.{HasCoordinates, IsClear, IsBoxFault, value_of}
use Rattle.obstacles_in.specs.Format.{obstacles_format}
use Rattle.obstacles_in.proofs.lemmas.LineWords.{title, boxes_word, box_line}
use Rattle.obstacles_in.proofs.lemmas.Unique.{coordinates_one}

-- a box around none of the points has no point inside
none_inside : (ps : List Point) (b : Rectangle) → IsClear ps b → Any (IsInside b) ps → ⊥
none_inside ps b clear (k, p, within, is, inside) = clear k p within (subst (IsInside b) (sym is) inside)

-- a box that is right has no fault
box_right : (ps : List Point) (n : ℕ) (b : Rectangle) (f : ObstacleFault) → IsBox b → IsClear ps b → IsBoxFault ps n b f → ⊥
box_right ps n b f right clear (inl (out, is)) = out right
box_right ps n b f right clear (inr (one, inside, is)) = none_inside ps b clear inside

-- and one that is wrong has one fault
box_fault_one : (ps : List Point) (n : ℕ) (b : Rectangle) (f g : ObstacleFault) → IsBoxFault ps n b f → IsBoxFault ps n b g → f ≡ g
box_fault_one ps n b f g (inl (out, e)) (inl (out', e')) = e ∙ sym e'
box_fault_one ps n b f g (inl (out, e)) (inr (one, inside, e')) = absurd (out one)
box_fault_one ps n b f g (inr (one, inside, e)) (inl (out, e')) = absurd (out one)
box_fault_one ps n b f g (inr (one, inside, e)) (inr (one', inside', e')) = e ∙ sym e'

-- few are not many
apart : (n : ℕ) → n ≤ 2500 → 2500 < n → ⊥
apart n few many = omega arith

-- what holds of all holds of the one behind those before it
holds_next : {X : Type 0} (P : X → Type 0) (told rest : List X) (x : X) → All P (told ++ x ∷ rest) → P x
holds_next P told rest x all =
    subst P (get_or-append_seam told x rest x) (all (length told) x (omega (arith, length-append told (x ∷ rest))))

coordinates_of : (b : Rectangle) → IsBox b → HasCoordinates b
coordinates_of b is = record { x1 = is.left; y1 = is.lower; x2 = is.right; y2 = is.upper }

pub obstacles_lawful : IsLawful obstacles_format
obstacles_lawful = record {
  title = title;
  kind = boxes_word;
  few = omega arith;
  one_item = coordinates_one;
  item_line = box_line;
  spelled = λ ps bs b few right. coordinates_of b right.0;
  points = λ ps. record { none = λ fit f wrong. wrong; one = λ f g wrong. absurd wrong };
  item = λ ps bs n b. record { none = λ right f. box_right ps n b f right.0 right.1; one = box_fault_one ps n b };
  whole = λ ps bs. record {
    none = λ small f large. apart (crossing_count (value_of ps bs)) small large.0;
    one = λ f g large large'. large.1 ∙ sym large'.1;
  };
  none = λ ps. record { boxes = All-nil IsBox; clear = All-nil (IsClear ps) };
  push = λ ps bs b are right. record {
    boxes = All-push IsBox bs b are.boxes right.0;
    clear = All-push (IsClear ps) bs b are.clear right.1;
  };
  next = λ ps bs rest b are. (holds_next IsBox bs rest b are.boxes, holds_next (IsClear ps) bs rest b are.clear);
}
