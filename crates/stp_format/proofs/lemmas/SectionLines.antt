-- A line that is left out of its section, and a line that isn't.
use Rattle.std.specs.Prelude.{ℕ, ◌≡◌, true, false, cond, List, codes, Err}
use Rattle.std.proofs.Common.{refl, ap, ◌∙◌}
use Rattle.points_in.specs.declared.point.Point.{Point}
use Rattle.stp_format.specs.declared.edge.StpEdge.{StpEdge}
use Rattle.stp_format.specs.declared.fault.StpFault.TheVariants.{BadLine, LeftOut}
use Rattle.stp_format.specs.Lines.{ToldLine, is_keyword}
use Rattle.stp_format.specs.Sections.{Sections, Reading, in_graph, in_terminals, in_coordinates, unsized, sized, listing, uncounted, naming}
use Rattle.stp_format.specs.Reading.{is_left_out, held_line, next_line}

pub left_out : (r : Reading) (line : ToldLine) → is_left_out r line.keyword ≡ true → next_line r line ≡ Err (LeftOut line.number)
left_out r line is = ap (λ b. cond b (Err (LeftOut line.number)) (held_line r line)) is

held : (r : Reading) (line : ToldLine) → is_left_out r line.keyword ≡ false → next_line r line ≡ held_line r line
held r line other = ap (λ b. cond b (Err (LeftOut line.number)) (held_line r line)) other

-- a line whose keyword isn't due
pub no_nodes : (s : Sections) (line : ToldLine) → is_left_out (in_graph s unsized) line.keyword ≡ false
    → is_keyword (codes "Nodes") line.keyword ≡ false → next_line (in_graph s unsized) line ≡ Err (BadLine line.number)
no_nodes s line kept other = held (in_graph s unsized) line kept ∙ rw other refl

pub no_edge_count : (s : Sections) (nodes : ℕ) (line : ToldLine) → is_left_out (in_graph s (sized nodes)) line.keyword ≡ false
    → is_keyword (codes "Edges") line.keyword ≡ false → next_line (in_graph s (sized nodes)) line ≡ Err (BadLine line.number)
no_edge_count s nodes line kept other = held (in_graph s (sized nodes)) line kept ∙ rw other refl

pub no_edge : (s : Sections) (nodes due : ℕ) (edges : List StpEdge) (line : ToldLine) → is_left_out (in_graph s (listing nodes due edges)) line.keyword ≡ false
    → is_keyword (codes "E") line.keyword ≡ false → is_keyword (codes "END") line.keyword ≡ false
    → next_line (in_graph s (listing nodes due edges)) line ≡ Err (BadLine line.number)
no_edge s nodes due edges line kept other another = held (in_graph s (listing nodes due edges)) line kept ∙ rw (other, another) refl

pub no_count : (s : Sections) (nodes : ℕ) (line : ToldLine) → is_left_out (in_terminals s nodes uncounted) line.keyword ≡ false
    → is_keyword (codes "Terminals") line.keyword ≡ false → next_line (in_terminals s nodes uncounted) line ≡ Err (BadLine line.number)
no_count s nodes line kept other = held (in_terminals s nodes uncounted) line kept ∙ rw other refl

pub no_terminal : (s : Sections) (nodes due : ℕ) (terminals : List ℕ) (line : ToldLine) → is_left_out (in_terminals s nodes (naming due terminals)) line.keyword ≡ false
    → is_keyword (codes "T") line.keyword ≡ false → is_keyword (codes "END") line.keyword ≡ false
    → next_line (in_terminals s nodes (naming due terminals)) line ≡ Err (BadLine line.number)
no_terminal s nodes due terminals line kept other another = held (in_terminals s nodes (naming due terminals)) line kept ∙ rw (other, another) refl

pub no_point : (s : Sections) (nodes : ℕ) (points : List (ℕ × Point)) (line : ToldLine) → is_left_out (in_coordinates s nodes points) line.keyword ≡ false
    → is_keyword (codes "DD") line.keyword ≡ false → is_keyword (codes "END") line.keyword ≡ false
    → next_line (in_coordinates s nodes points) line ≡ Err (BadLine line.number)
no_point s nodes points line kept other another = held (in_coordinates s nodes points) line kept ∙ rw (other, another) refl
