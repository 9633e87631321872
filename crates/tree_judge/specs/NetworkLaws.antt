-- The edges of an answer are the network that it says, or are not for one cause.
use Rattle.std.proofs.Common.{ℕ, ◌≡◌, ◌<◌, Bool, List, length, get_or, ◌⊎◌, inl, inr, refl, sym, ap, ◌∙◌, subst, arith}
use Rattle.std.proofs.lemmas.Bool.{cases_lt}
use Rattle.std.proofs.lemmas.Option.{slice_get_within, get_or_from_slice_get}
use Rattle.net_graph.specs.JoinsLaws.{not_apart_before}
use Rattle.net_graph.specs.Graph.{Graph}
use Rattle.net_graph.specs.Network.{Reaches, IsNetwork, IsFirstApart}
use Rattle.tree_judge.specs.declared.cause.Cause.{Cause}
use Rattle.tree_judge.specs.declared.cause.Cause.TheVariants.{NotJoined, WrongLength}
use Rattle.tree_judge.specs.Networks.{IsMeasured, IsMismeasured, NetworkFault}

-- the two causes
network_causes : (g : Graph) (printed : ℕ) (network : List Bool) (cause : Cause) →
    NetworkFault g printed network cause →
    ((place : ℕ) × (cause ≡ NotJoined place) × IsFirstApart g network place) ⊎
    ((said : ℕ) × (found : ℕ) × (cause ≡ WrongLength said found) × IsMismeasured g printed network said found)
network_causes g printed network (NotJoined place) apart = inl (place, refl, apart)
network_causes g printed network (WrongLength said found) wrong = inr (said, found, refl, wrong)
network_causes g printed network cause fault = absurd fault

-- a network has no terminal apart
apart_from_network : {P : Type 0} (g : Graph) (network : List Bool) (place : ℕ) → IsNetwork g network →
    IsFirstApart g network place → P
apart_from_network g network place joins first =
    let within : place < length g.terminals = slice_get_within g.terminals place first.terminal first.at in
    let is : get_or g.terminals place first.terminal ≡ first.terminal =
    get_or_from_slice_get g.terminals place first.terminal first.terminal first.at in
    absurd (first.apart (subst (Reaches g network) is (joins place first.terminal within)))

-- edges that are the network have no fault
pub measured_without_fault : {P : Type 0} (g : Graph) (printed : ℕ) (network : List Bool) (cause : Cause) →
    IsMeasured g printed network → NetworkFault g printed network cause → P
measured_without_fault g printed network cause measured fault =
    elim (network_causes g printed network cause fault) [
      | inl (place, _, first) ↦ apart_from_network g network place measured.joins first
      | inr (said, found, _, wrong) ↦ absurd (wrong.differ (wrong.printed_is ∙ measured.told ∙ sym wrong.found_is))
    ]

-- edges that are not have one
pub same_network_fault : (g : Graph) (printed : ℕ) (network : List Bool) (cause cause' : Cause) →
    NetworkFault g printed network cause → NetworkFault g printed network cause' → cause ≡ cause'
same_network_fault g printed network cause cause' fault fault' =
    elim (network_causes g printed network cause fault) [
      | inl (place, is, first) ↦ elim (network_causes g printed network cause' fault') [
        | inl (place', is', first') ↦ is
            ∙ ap NotJoined (grind (arith, cases_lt place place', not_apart_before, cases_lt place' place)) ∙ sym is'
        | inr (said', found', _, wrong') ↦ apart_from_network g network place wrong'.joins first
      ]
      | inr (said, found, is, wrong) ↦ elim (network_causes g printed network cause' fault') [
        | inl (place', _, first') ↦ apart_from_network g network place' wrong.joins first'
        | inr (said', found', is', wrong') ↦
            let said_same : said ≡ said' = wrong.printed_is ∙ sym wrong'.printed_is in
            let found_same : found ≡ found' = wrong.found_is ∙ sym wrong'.found_is in
            cc
      ]
    ]
