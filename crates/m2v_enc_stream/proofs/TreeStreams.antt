-- The whole stream: its groups, and the sequence end code.
use Rattle.std.proofs.Common.{◌≡◌, ℕ, ◌<◌, ◌≤◌, Bool, true, List, [], ◌∷◌, ◌++◌, length, None, inl, refl, sym, ap, subst, ◌∙◌, arith}
use Rattle.m2v_bits.specs.Bits.{start_code, packed}
use Rattle.m2v_bits.specs.Syntax.{Rounds}
use Rattle.m2v_plane.specs.Samples.{Samples}
use Rattle.m2v_set.specs.declared.settings.Settings.{Settings}
use Rattle.m2v_set.specs.Rules.{Passes}
use Rattle.m2v_order.specs.Groups.{Group}
use Rattle.m2v_enc_stream.specs.Streams.{Progress, at_start, coded_all, Coded}
use Rattle.m2v_enc_stream.proofs.Queues.{coded_is, stream_some}
use Rattle.m2v_model.specs.declared.state.State.{State}
use Rattle.m2v_model.specs.Units.{Units, Cuts}
use Rattle.m2v_model.specs.States.{at_first, none_waits}
use Rattle.m2v_model.specs.Streams.{Part, Sofar, ending, after, unit_round, stream_at}
use Rattle.m2v_model.specs.Decoding.{Stream}
use Rattle.m2v_model.specs.Chains.{Chain, nothing, link}
use Rattle.m2v_model.proofs.Ends.{end_bytes, end_packs, end_stands}
use Rattle.m2v_model.proofs.Chains.{rounds_of, stream_of}
use Rattle.m2v_enc_stream.specs.Trees.{groups_of, groups_parts, state_behind, tree_of}
use Rattle.m2v_enc_stream.specs.States.{state_with}
use Rattle.m2v_enc_stream.proofs.Zeros.{padded_cuts}
use Rattle.m2v_enc_stream.proofs.SliceUnits.{Spelled}
use Rattle.m2v_enc_stream.proofs.Follows.{stream_follows}
use Rattle.m2v_enc_stream.proofs.TreeGroups.{IsSettled, Between, AllFollow, groups_units, groups_read, groups_add}

-- ---- the state behind parts

-- units lead to the state behind their parts
chain_state : {a b : State} {ps : List Part} {us : Units} → Chain a ps us b → b ≡ state_behind a ps
unfolding state_behind
chain_state nothing = refl
chain_state (link r c) = chain_state c

pub state_on : (st : State) (ps qs : List Part) → state_behind st (ps ++ qs) ≡ state_behind (state_behind st ps) qs
unfolding state_behind
state_on st [] qs = refl
state_on st (p ∷ ps) qs = state_on (after st p) ps qs

state_one : (st : State) (p : Part) → state_behind st (p ∷ []) ≡ after st p
unfolding state_behind
state_one st p = refl

-- ---- the end

abbrev ended_tree : State → List Part → Sofar
ended_tree st parts = record { state = after st ending; parts = parts ++ ending ∷ [] }

ends_between : (s : Settings) (st : State) (parts : List Part) → IsSettled s st → Rounds unit_round (record { state = st; parts = parts }) (ended_tree st parts) (end_bytes ∷ []) []
ends_between s st parts x =
    subst (λ (t : State). Rounds unit_round (record { state = t; parts = parts }) (ended_tree t parts) (end_bytes ∷ []) []) (sym x.between.is)
    (end_stands (state_with s x.between.closed x.between.anchors None x.between.open_one) parts refl x.complete refl)

-- behind the end no second field is due
none_due : (s : Settings) (st : State) → IsSettled s st → none_waits (after st ending).waiting ≡ true
unfolding after
none_due s st x = ap (λ (t : State). none_waits t.waiting) x.between.is

-- ---- the stream

stream_by : (s : Settings) (st : State) (parts : List Part) (us : Units) → Chain at_first parts us st → IsSettled s st → stream_at.Stands (ended_tree st parts) (us ++ end_bytes ∷ []) []
stream_by s st parts us c x =
    stream_of (us ++ end_bytes ∷ []) [] (ended_tree st parts)
    (rounds_of c [] (end_bytes ∷ []) [] (ended_tree st parts) (ends_between s st parts x))
    (none_due s st x)

tree_by : (s : Settings) (frames : List (List ℕ)) (st : State) (us : Units) → Chain at_first (groups_parts s (at_start s) (groups_of s frames)) us st
    → ended_tree st (groups_parts s (at_start s) (groups_of s frames)) ≡ tree_of s frames
tree_by s frames st us c =
    let parts = groups_parts s (at_start s) (groups_of s frames) in
    let e : after st ending ≡ state_behind at_first (parts ++ ending ∷ []) =
    ap (λ (t : State). after t ending) (chain_state c) ∙ sym (state_one (state_behind at_first parts) ending) ∙ sym (state_on at_first parts (ending ∷ [])) in
    ap (λ (t : State). record { state = t; parts = parts ++ ending ∷ [] }) e

stream_with : (law : Spelled) (s : Settings) (frames : List (List ℕ)) (g : Group Samples) (more : List (Group Samples)) → groups_of s frames ≡ g ∷ more
    → AllFollow s (at_start s) (groups_of s frames) → Stream (Coded s frames) (tree_of s frames)
stream_with law s frames g more is all =
    let x = at_start s in
    let read : Between s at_first (groups_parts s x (groups_of s frames)) (groups_units s x (groups_of s frames)) =
    subst (λ (gs : List (Group Samples)). Between s at_first (groups_parts s x gs) (groups_units s x gs)) (sym is)
    (groups_read law s g more x at_first (subst (AllFollow s x) is all) (inl (refl, refl))) in
    let adds = groups_add law s (groups_of s frames) x all in
    let text : (coded_all s frames).text ≡ adds.bits = ap (λ (y : Progress). y.text) (coded_is s frames) ∙ adds.is in
    let us = groups_units s x (groups_of s frames) in
    let cuts = padded_cuts adds.bits (start_code 0xB7) us end_bytes adds.holds end_packs in
    record {
      front = [];
      units = us ++ end_bytes ∷ [];
      rest = [];
      cuts = subst (λ (t : List Bool). Cuts (packed (t ++ start_code 0xB7)) [] (us ++ end_bytes ∷ [])) (sym text) cuts;
      stands = subst (λ (z : Sofar). stream_at.Stands z (us ++ end_bytes ∷ []) []) (tree_by s frames read.end us read.chain)
          (stream_by s read.end (groups_parts s x (groups_of s frames)) us read.chain read.between);
    }

-- groups that can follow one another are a stream
pub stream_of_groups : (law : Spelled) (s : Settings) (frames : List (List ℕ)) → 0 < length (groups_of s frames) → AllFollow s (at_start s) (groups_of s frames) → Stream (Coded s frames) (tree_of s frames)
stream_of_groups law s frames some all = by_list (groups_of s frames) refl
  where
    by_list : (gs : List (Group Samples)) → groups_of s frames ≡ gs → Stream (Coded s frames) (tree_of s frames)
    by_list [] e = absurd (omega (arith, ap length e, some))
    by_list (g ∷ more) e = stream_with law s frames g more e all

-- the stream of some frames is read as its tree
pub stream_stands : (law : Spelled) (s : Settings) (frames : List (List ℕ)) → Passes s → 1 ≤ length frames → length frames ≤ 999999 → Stream (Coded s frames) (tree_of s frames)
stream_stands law s frames passes some few = stream_of_groups law s frames (stream_some s frames some) (stream_follows s frames passes few)
