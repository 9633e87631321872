-- The lines of a network's edges, one flag after another.
use Rattle.std.proofs.Common.{ℕ, ◌≡◌, ◌+◌, ◌<◌, Bool, true, false, cond, List, [], ◌∷◌, ◌++◌, length, take, ap, sym, ◌∙◌, arith}
use Rattle.std.specs.Prelude.{All, map}
use Rattle.std.proofs.lemmas.List.{append-nil, map-append, length-map}
use Rattle.std.proofs.lemmas.List.Elements.{All-push, All-same}
use Rattle.net_graph.specs.Flags.{has}
use Rattle.net_graph.specs.Members.{members_of}
use Rattle.net_graph.specs.MembersLaws.{members_of-more}
use Rattle.answer_text.specs.declared.form.Form.{Form}
use Rattle.answer_text.specs.LineKinds as line
use Rattle.answer_text.specs.Lines.{line_text, lines_text}
use Rattle.answer_text.specs.Spelling.{FitsEdge}
use Rattle.answer_text.specs.Answers.{Labels, edge_labels}
use Rattle.answer_text.proofs.lemmas.Lengths.{lines_text-push}

-- a member is one more number
pub members-member : (set : List Bool) (e : ℕ) → e < length set → has set e ≡ true → members_of (take (e + 1) set) ≡ members_of (take e set) ++ e ∷ []
members-member set e inside is = members_of-more set e inside ∙ ap (λ flag. members_of (take e set) ++ cond flag (e ∷ []) []) is

-- another number is none
pub members-other : (set : List Bool) (e : ℕ) → e < length set → has set e ≡ false → members_of (take (e + 1) set) ≡ members_of (take e set)
members-other set e inside is = grind (arith, members_of-more, append-nil)

-- the lines of some edges and of one more
edge_lines-more : (L : Labels) (numbers : List ℕ) (e : ℕ)
    → lines_text (map line.Edge (edge_labels L (numbers ++ e ∷ []))) ≡ lines_text (map line.Edge (edge_labels L numbers)) ++ line_text (line.Edge (L.edge e))
edge_lines-more L numbers e = search (map-append, lines_text-push)

-- the name of a member is one more name
pub names-member : (F : Form) (L : Labels) (set : List Bool) (e : ℕ) → e < length set → has set e ≡ true → All (FitsEdge F) (edge_labels L (members_of (take e set))) → FitsEdge F (L.edge e)
    → All (FitsEdge F) (edge_labels L (members_of (take (e + 1) set)))
names-member F L set e inside is names name =
    grind (arith, members-member set e inside is, map-append L.edge (members_of (take e set)) (e ∷ []), All-push (FitsEdge F) (edge_labels L (members_of (take e set))) (L.edge e) names name)

-- another number has none
pub names-other : (F : Form) (L : Labels) (set : List Bool) (e : ℕ) → e < length set → has set e ≡ false → All (FitsEdge F) (edge_labels L (members_of (take e set)))
    → All (FitsEdge F) (edge_labels L (members_of (take (e + 1) set)))
names-other F L set e inside is names = search (All-same, members-other)

-- a member has a line
pub lines-member : (L : Labels) (set : List Bool) (e : ℕ) → e < length set → has set e ≡ true
    → lines_text (map line.Edge (edge_labels L (members_of (take e set)))) ++ line_text (line.Edge (L.edge e)) ≡ lines_text (map line.Edge (edge_labels L (members_of (take (e + 1) set))))
lines-member L set e inside is = search (edge_lines-more, members-member)

-- another number has none
pub lines-other : (L : Labels) (set : List Bool) (e : ℕ) → e < length set → has set e ≡ false
    → lines_text (map line.Edge (edge_labels L (members_of (take e set)))) ≡ lines_text (map line.Edge (edge_labels L (members_of (take (e + 1) set))))
lines-other L set e inside is = ap (λ numbers. lines_text (map line.Edge (edge_labels L numbers))) (sym (members-other set e inside is))

-- another number as none
pub count-other : (set : List Bool) (e count : ℕ) → e < length set → has set e ≡ false → count ≡ length (members_of (take e set)) → count ≡ length (members_of (take (e + 1) set))
count-other set e count inside is so_far = so_far ∙ sym (ap length (members-other set e inside is))

-- the count of the members counts their names
pub count-names : (L : Labels) (numbers : List ℕ) (count : ℕ) → count ≡ length numbers → count ≡ length (edge_labels L numbers)
count-names L numbers count is = is ∙ sym (length-map numbers L.edge)
