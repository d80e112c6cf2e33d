-- The pieces behind a group's first one.
use Rattle.std.proofs.Common.{◌≡◌, ◌⊎◌, ℕ, ◌+◌, ◌≤◌, ◌<◌, Bool, true, false, List, [], ◌∷◌, ◌++◌, length, Option, Some, None, Result, Ok, Err, inl, inr, refl, sym, ap, subst, ◌∙◌, append_assoc, arith}
use Rattle.std.specs.Prelude.{IfErr, OnOk}
use Rattle.std.proofs.lemmas.List.{append-nil}
use Rattle.m2v_port.specs.Ends.{Change, change}
use Rattle.m2v_port.specs.Port.{Moves, Grows, GrowsByPrefix}
use Rattle.m2v_port.proofs.Runs.{moves_nothing, grows_on, grows_by_nothing, grows_by_all, prefix_on, rose_since}
use Rattle.m2v_model.specs.Units.{joined}
use Rattle.m2v_decode.specs.m2v_dec_piece.declared.answer.Piece.{Piece}
use Rattle.m2v_decode.specs.m2v_dec_piece.declared.answer.DecodeError.{DecodeError}
use Rattle.m2v_decode.specs.m2v_dec_piece.declared.answer.DecodeError.TheVariants as reading
use Rattle.m2v_decode.specs.m2v_dec_piece.Cutting.{Cutting, left_of}
use Rattle.m2v_decode.specs.Decoding.{whole_of}
use Rattle.m2v_cut.specs.declared.answer.CutError.{CutError}
use Rattle.m2v_cut.specs.declared.answer.CutError.TheVariants as errors
use Rattle.m2v_cut.specs.declared.copy.Copied.{Copied}
use Rattle.m2v_cut.specs.Answers.{units_of, groups_of}
use Rattle.m2v_cut.specs.Progress.{Onward, ReadOn, RestPut, RestRead, RestCut, RestStops, RestFails, PutEnds, HasPut, SecondPut, Cuts, bytes_of, all_bytes, all_groups, all_lengths}
use Rattle.m2v_cut.specs.Starts.{piece_list}
use Rattle.m2v_cut.specs.Behind.{BehindPut, BehindCut, BehindStops, BehindFails}
use Rattle.m2v_cut.proofs.Joins.{groups_on, bytes_on}
use Rattle.m2v_cut.proofs.Onwards.{onward_none}

-- ---- answers that are handed on

pub on_ok_weaker : {T E P Q : Type 0} (result : Result T E) → (P → Q) → OnOk result P → OnOk result Q
on_ok_weaker (Ok x) f p = f p
on_ok_weaker (Err e) f p = tt

pub if_err_weaker : {T E : Type 0} {P Q : E → Type 0} (result : Result T E) → ((e : E) → P e → Q e) → IfErr result P → IfErr result Q
if_err_weaker (Ok x) f p = tt
if_err_weaker (Err e) f p = f e p

-- what writing the second piece did
pub record Begun (before : List (List ℕ)) (old mid : Copied) (held : Change) : Type 0 where
  pub groups : mid.groups ≡ old.groups + all_groups before
  pub bytes : mid.bytes ≡ old.bytes + all_lengths before
  pub grown : Grows held.old (all_bytes before) held.new

pub begun : (second : Option Piece) (most : ℕ) (old mid : Copied) (held : Change) → SecondPut true (piece_list second) most old mid held → Begun (piece_list second) old mid held
begun None most old mid held put = record {
  groups = let e : mid.groups ≡ old.groups = ap (λ (x : Copied). x.groups) put.1 in omega (arith, e);
  bytes = let e : mid.bytes ≡ old.bytes = ap (λ (x : Copied). x.bytes) put.1 in omega (arith, e);
  grown = subst (λ (h : Option (List ℕ)). Grows held.old [] h) (sym put.2) (grows_by_nothing held.old);
}
begun (Some p) most old mid held put = record {
  groups = let e : mid.groups ≡ old.groups + groups_of (whole_of p) = ap (λ (x : Copied). x.groups) put.0 in omega (arith, e);
  bytes = let e : mid.bytes ≡ old.bytes + length (joined (units_of (whole_of p))) = ap (λ (x : Copied). x.bytes) put.0 in omega (arith, e);
  grown = subst (λ (b : List ℕ). Grows held.old b held.new) (sym (append-nil (bytes_of (whole_of p)))) put.2;
}

lengths_on : (ps qs : List (List ℕ)) → all_lengths (ps ++ qs) ≡ all_lengths ps + all_lengths qs
lengths_on [] qs = omega arith
lengths_on (p ∷ ps) qs = omega (arith, lengths_on ps qs)

same_ends : (last : List (List ℕ)) (most a b groups : ℕ) (others : List ℕ → List (List ℕ)) (new : Option (List ℕ)) → a ≡ b → PutEnds last most a groups others new → PutEnds last most b groups others new
same_ends last most a b groups others new e p = subst (λ (k : ℕ). PutEnds last most k groups others new) e p

module _ {S K : Type 0} (left : S → Option (List ℕ)) (input_faults : S → ℕ) (held : K → Option (List ℕ)) (output_faults : K → ℕ) where
  abbrev input : S → S → Change
  input = change left input_faults

  abbrev output : K → K → Change
  output = change held output_faults

  pub behind_put : (i0 i1 : S) (o0 o1 o2 : K) (second : Option Piece) (most : ℕ) (old mid new : Copied) (c c' : Cutting) → SecondPut true (piece_list second) most old mid (output o0 o1) → RestPut most mid new (input i0 i1) (output o1 o2) c c'
      → BehindPut (piece_list second) most old new (input i0 i1) (output o0 o2) c c'
  behind_put i0 i1 o0 o1 o2 second most old mid new c c' put rest =
      let ws : List (List ℕ) = piece_list second in
      let b : Begun ws old mid (output o0 o1) = begun second most old mid (output o0 o1) put in
      record {
        read = rest.mids ++ rest.last;
        mids = ws ++ rest.mids;
        last = rest.last;
        are = sym (append_assoc ws rest.mids rest.last);
        onward = rest.onward;
        grown = subst (λ (x : List ℕ). Grows (held o0) x (held o2)) (sym (bytes_on ws rest.mids)) (grows_on b.grown rest.grown);
        bytes = omega (arith, rest.bytes, b.bytes, lengths_on ws rest.mids);
        ends = same_ends rest.last most _ _ new.groups (left_of c') (left i1) (omega (arith, b.groups, groups_on ws rest.mids)) rest.ends;
      }

  -- the second piece holds the header of the group behind the cut
  pub behind_none : (i0 : S) (o0 o1 : K) (second : Option Piece) (most : ℕ) (old mid new : Copied) (c : Cutting) → (c.begun ≡ true) ⊎ (c.ended ≡ true) → old.groups ≤ most → SecondPut false (piece_list second) most old mid (output o0 o1) → new ≡ record { groups = most; bytes = mid.bytes }
      → BehindPut (piece_list second) most old new (input i0 i0) (output o0 o1) c c
  behind_none i0 o0 o1 None most old mid new c at few put is = absurd (let e : false ≡ true = put.0 in cc)
  behind_none i0 o0 o1 (Some p) most old mid new c at few put is =
      let bytes : new.bytes ≡ old.bytes = ap (λ (x : Copied). x.bytes) is ∙ ap (λ (x : Copied). x.bytes) put.0 in
      record {
        read = [];
        mids = [];
        last = whole_of p ∷ [];
        are = refl;
        onward = onward_none (left i0) c at;
        grown = subst (λ (h : Option (List ℕ)). Grows (held o0) [] h) (sym put.2) (grows_by_nothing (held o0));
        bytes = omega (arith, bytes);
        ends = (refl, omega (arith, few), omega (arith, put.1), ap (λ (x : Copied). x.groups) is);
      }

  -- ---- why not

  here : (i0 : S) (c : Cutting) → (c.begun ≡ true) ⊎ (c.ended ≡ true) → ReadOn (left i0) (left i0) c []
  here i0 c at = record { between = left i0; then_is = c; onward = onward_none (left i0) c at; bytes = []; moved = moves_nothing (left i0) }

  second_cut : (i0 : S) (o0 o1 : K) (before : List (List ℕ)) (most groups : ℕ) (c : Cutting) → (c.begun ≡ true) ⊎ (c.ended ≡ true) → groups + all_groups before ≤ most → GrowsByPrefix (held o0) (all_bytes before) (held o1) → BehindCut before most groups (input i0 i0) (output o0 o1) c
  second_cut i0 o0 o1 before most groups c at few cut = record {
    read = [];
    few = omega (arith, groups_on before [], few);
    on = here i0 c at;
    grown = subst (λ (ps : List (List ℕ)). GrowsByPrefix (held o0) (all_bytes ps) (held o1)) (sym (append-nil before)) cut;
  }

  pub second_failed : (i0 : S) (o0 o1 : K) (before : List (List ℕ)) (most groups : ℕ) (c : Cutting) (e : CutError) → (c.begun ≡ true) ⊎ (c.ended ≡ true) → (groups + all_groups before ≤ most) × Cuts (all_bytes before) (output o0 o1) e
      → BehindFails before most groups (input i0 i0) (output o0 o1) c e
  second_failed i0 o0 o1 before most groups c errors.Write at cut = (cut.1.0, second_cut i0 o0 o1 before most groups c at cut.0 cut.1.1)
  second_failed i0 o0 o1 before most groups c errors.Memory at cut = second_cut i0 o0 o1 before most groups c at cut.0 cut.1
  second_failed i0 o0 o1 before most groups c _ at cut = absurd cut.1

  rest_cut : (i0 i1 : S) (o0 o1 o2 : K) (before mids : List (List ℕ)) (most : ℕ) (old mid : Copied) (c : Cutting) → Begun before old mid (output o0 o1) → mid.groups + all_groups mids ≤ most → ReadOn (left i0) (left i1) c mids → GrowsByPrefix (held o1) (all_bytes mids) (held o2)
      → BehindCut before most old.groups (input i0 i1) (output o0 o2) c
  rest_cut i0 i1 o0 o1 o2 before mids most old mid c b few read cut = record {
    read = mids;
    few = omega (arith, groups_on before mids, b.groups, few);
    on = read;
    grown = subst (λ (x : List ℕ). GrowsByPrefix (held o0) x (held o2)) (sym (bytes_on before mids)) (prefix_on b.grown cut);
  }

  rest_stops : (i0 i1 : S) (o0 o1 o2 : K) (before : List (List ℕ)) (most : ℕ) (old mid : Copied) (c : Cutting) (e : DecodeError) → Begun before old mid (output o0 o1) → RestStops most mid.groups (input i0 i1) (output o1 o2) c e → BehindStops before most old.groups (input i0 i1) (output o0 o2) c e
  rest_stops i0 i1 o0 o1 o2 before most old mid c e b r = record {
    read = r.mids;
    few = omega (arith, groups_on before r.mids, b.groups, r.few);
    on = r.read;
    grown = subst (λ (x : List ℕ). Grows (held o0) x (held o2)) (sym (bytes_on before r.mids)) (grows_on b.grown r.grown);
    over = r.over;
  }

  pub rest_failed : (i0 i1 : S) (o0 o1 o2 : K) (second : Option Piece) (most : ℕ) (old mid : Copied) (c : Cutting) (e : CutError) → output_faults o0 ≤ output_faults o1 → SecondPut true (piece_list second) most old mid (output o0 o1) → RestFails most mid.groups (input i0 i1) (output o1 o2) c e
      → BehindFails (piece_list second) most old.groups (input i0 i1) (output o0 o2) c e
  rest_failed i0 i1 o0 o1 o2 second most old mid c errors.Read le put r =
      (r.0, rest_cut i0 i1 o0 o1 o2 (piece_list second) r.1.mids most old mid c (begun second most old mid (output o0 o1) put) r.1.few r.1.read (grows_by_all r.1.grown))
  rest_failed i0 i1 o0 o1 o2 second most old mid c errors.Write le put r =
      (rose_since le r.0, rest_cut i0 i1 o0 o1 o2 (piece_list second) r.1.mids most old mid c (begun second most old mid (output o0 o1) put) r.1.few r.1.read r.1.grown)
  rest_failed i0 i1 o0 o1 o2 second most old mid c (errors.NoGroup have need) le put r = absurd r
  rest_failed i0 i1 o0 o1 o2 second most old mid c (errors.NotCuttable place) le put r = absurd r
  rest_failed i0 i1 o0 o1 o2 second most old mid c errors.TooLong le put r = rest_stops i0 i1 o0 o1 o2 (piece_list second) most old mid c reading.TooLong (begun second most old mid (output o0 o1) put) r
  rest_failed i0 i1 o0 o1 o2 second most old mid c errors.PictureTooLarge le put r = rest_stops i0 i1 o0 o1 o2 (piece_list second) most old mid c reading.PictureTooLarge (begun second most old mid (output o0 o1) put) r
  rest_failed i0 i1 o0 o1 o2 second most old mid c errors.Memory le put r =
      rest_cut i0 i1 o0 o1 o2 (piece_list second) r.mids most old mid c (begun second most old mid (output o0 o1) put) r.few r.read r.grown
