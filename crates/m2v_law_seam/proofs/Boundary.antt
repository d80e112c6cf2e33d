-- Where a span begins no second field is due: its first piece is an entry, or no second field by its bits.
use Rattle.std.proofs.Common.{◌≡◌, ℕ, ◌+◌, Bool, true, false, List, [], ◌∷◌, ◌++◌, length, Option, Some, None, ◌⊎◌, inl, inr, refl, sym, ap, subst, ◌∙◌, append_assoc, append-nil, arith}
use Rattle.std.specs.Prelude.{nat_eq, nat_le, ◌||◌, if◌then◌else◌}
use Rattle.std.proofs.lemmas.Bool.{cases_Bool, both_ways, eqb-true, le-leb}
use Rattle.std.proofs.lemmas.List.{length-append}
use Rattle.m2v_bits.proofs.SyntaxLaws.{good, good_is}
use Rattle.m2v_model.specs.declared.fault.FaultKind.{FaultKind}
use Rattle.m2v_model.specs.m2v_macroblock.m2v_head.declared.picture.PictureInfo.{PictureInfo}
use Rattle.m2v_model.specs.m2v_macroblock.m2v_head.declared.picture.PictureExtension.{PictureExtension}
use Rattle.m2v_model.specs.declared.state.FirstField.{FirstField}
use Rattle.m2v_model.specs.declared.state.State.{State}
use Rattle.m2v_model.specs.Units.{Units, joined, AreUnits}
use Rattle.m2v_model.specs.States.{at_first, none_waits, is_second_field_due}
use Rattle.m2v_model.specs.Streams.{Part, sequence, picture, after, value_of}
use Rattle.m2v_model.specs.Pieces.{begins_piece, is_end}
use Rattle.m2v_model.specs.ByPieces.{unit_read}
use Rattle.m2v_model.proofs.CutLaws.{cut_units}
use Rattle.m2v_model.proofs.ShiftLaws.{BeginsPiece, NoEnds}
use Rattle.m2v_model.proofs.SplitLaws.{IsKnown}
use Rattle.m2v_law_group.specs.Groups.{is_picture, is_sequence, is_group, has_picture, has_sequence, group_headers, next_unit, coded_pictures}
use Rattle.m2v_law_group.proofs.Lists.{or_parts}
use Rattle.m2v_law_group.proofs.Parts.{PartOf, of_sequence, of_group, of_picture, of_other, part_of}
use Rattle.m2v_law_group.proofs.Runs.{Run, stop, step, Ends, split, known_there, none_ends, run_before, run_then}
use Rattle.m2v_law_group.proofs.Tens.{run_known}
use Rattle.m2v_law_group.proofs.Start.{sequence_start}
use Rattle.m2v_law_group.proofs.Core.{first_read}
use Rattle.m2v_law_group.proofs.Between.{OtherFirst, paired_end}
use Rattle.m2v_law_seam.specs.Spans.{units_of, has_group, is_entry, field_by, first_field, field_of, is_second, waits_behind}
use Rattle.m2v_law_seam.proofs.Strand.{known_behind}
use Rattle.m2v_law_seam.proofs.Fronts.{ReadOn, Rests}
use Rattle.m2v_law_seam.proofs.Pieced.{Quiet, BeginsOne}
use Rattle.m2v_law_seam.proofs.Fields.{Waits, second_by, next_waits, second_is, field_is, piece_waits, PictureThere, picture_there, known_first, shown_first}

-- ---- runs and lists

pub front_is : (xs ys zs : Units) → xs ++ zs ≡ ys ++ zs → xs ≡ ys
front_is [] [] zs e = refl
front_is [] (y ∷ ys) zs e = absurd (omega (arith, ap length e, length-append ys zs))
front_is (x ∷ xs) [] zs e = absurd (omega (arith, ap length e, length-append xs zs))
front_is (x ∷ xs) (y ∷ ys) zs e =
    let one : x ≡ y = cc in
    let rest : xs ++ zs ≡ ys ++ zs = cc in
    ap (λ (v : List ℕ). v ∷ xs) one ∙ ap (λ (l : Units). y ∷ l) (front_is xs ys zs rest)

not_stopped : {A : Type 0} (st : State) (us mid : Units) (p : Part) → us ≡ [] → unit_read st us ≡ good ((true, p), mid) → A
not_stopped st us mid p none e = let wrong = none_ends st (true, p) mid (subst (λ (l : Units). unit_read st l ≡ good ((true, p), mid)) none e) in absurd cc

-- units that are all read leave one state
run_by : {a b c d : State} {us vs ws xs : Units} {ps qs : List Part} → Run a us ps b ws → Run c vs qs d xs → a ≡ c → us ≡ vs → ws ≡ [] → xs ≡ [] → b ≡ d
run_by stop stop s u m n = s
run_by {a} {us = us} stop (step {mid = mid} {p = p} e later) s u m n = not_stopped _ _ mid p (sym u ∙ m) e
run_by (step {mid = mid} {p = p} e later) stop s u m n = not_stopped _ _ mid p (u ∙ n) e
run_by {a} {c = c} {us = us} {vs = vs} (step {mid = mid} {p = p} e r) (step {mid = rest} {p = q} f t) s u m n =
    let own : unit_read c vs ≡ good ((true, p), mid) = subst (λ (x : State). unit_read x vs ≡ good ((true, p), mid)) s (subst (λ (l : Units). unit_read a l ≡ good ((true, p), mid)) u e) in
    let pair = good_is {K = FaultKind} ((true, p), mid) ((true, q), rest) (sym own ∙ f) in
    let part : p ≡ q = ap (λ (y : (Bool × Part) × Units). (y.0).1) pair in
    let left : mid ≡ rest = ap (λ (y : (Bool × Part) × Units). y.1) pair in
    run_by r t (ap (after a) part ∙ ap (λ (x : State). after x q) s) left m n

-- ---- between two pieces

-- units that were read from a state on, before others of a stream
pub record PieceRead (body rs : Units) (r : ReadOn (body ++ rs)) (st : State) (z bu : Units) : Type 0 where
  pub parts : List Part
  pub others : List Part
  pub state : State
  pub run : Run st z parts state []
  pub later : Ends state (bu ++ rs) others r.state r.rest

-- the first units of a stream, as they were read
pub record FrontRead (body rs : Units) (r : ReadOn (body ++ rs)) (fu bu : Units) : Type 0 where
  pub piece : PieceRead body rs r at_first fu bu
  pub open piece use *
  pub known : IsKnown state

-- of a stream's units those before, and the state and the first field that they leave
pub record At (body rs : Units) (r : ReadOn (body ++ rs)) (w : ℕ) (bu : Units) : Type 0 where
  pub fu : Units
  pub whole : body ≡ fu ++ bu
  pub front : FrontRead body rs r fu bu
  pub open front use *
  pub waits : Waits w state.waiting

-- no second field is due behind any front that has these units behind it
abbrev pub AtRest : Units → Units → Type 0
AtRest body bu = (fu : Units) → body ≡ fu ++ bu → Rests fu

-- the front that was read leaves none
pub rest_run : (body fu bu : Units) (ps : List Part) (st : State) → body ≡ fu ++ bu → Run at_first fu ps st [] → none_waits st.waiting ≡ true → AtRest body bu
rest_run body own bu ps st whole mine none fu e qs z run =
    let same : own ≡ fu = front_is own fu bu (sym whole ∙ e) in
    ap (λ (x : State). none_waits x.waiting) (sym (run_by mine run refl same refl refl)) ∙ none

rest_by : (body rs : Units) (r : ReadOn (body ++ rs)) (w : ℕ) (bu : Units) → (a : At body rs r w bu) → none_waits (a.state).waiting ≡ true → AtRest body bu
rest_by body rs r w bu a none = rest_run body a.fu bu a.parts a.state a.whole a.run none

-- where an entry follows
rest_entry : (body rs : Units) (r : ReadOn (body ++ rs)) (w : ℕ) (bu : Units) → At body rs r w bu → BeginsPiece (bu ++ rs) → OtherFirst (bu ++ rs) → AtRest body bu
rest_entry body rs r w bu a begins other = rest_by body rs r w bu a (paired_end a.later begins other a.known r.paired)

-- a piece that is read from there on
piece_read : (body rs : Units) (r : ReadOn (body ++ rs)) (w : ℕ) (z bu : Units) → (a : At body rs r w (z ++ bu)) → BeginsPiece (bu ++ rs) → NoEnds z → PieceRead body rs r a.state z bu
piece_read body rs r w z bu a begins goes =
    let i = split a.later z (bu ++ rs) (append_assoc z bu rs) begins goes (known_there a.state z a.known) in
    record { parts = i.mine; others = i.others; state = i.between; run = i.run; later = i.later }

-- behind it
pub at_on : (body rs : Units) (r : ReadOn (body ++ rs)) (w : ℕ) (z bu : Units) → At body rs r w (z ++ bu) → AreUnits z → Quiet false z → has_picture z ≡ true → NoEnds z → BeginsPiece z → BeginsPiece (bu ++ rs) → At body rs r (waits_behind w (joined z)) bu
unfolding waits_behind
at_on body rs r w z bu a are quiet has goes first begins =
    let p = piece_read body rs r w z bu a begins goes in
    let waits = piece_waits p.run refl w (known_first a.state z a.known) quiet has a.waits in
    let field : field_of (joined z) ≡ first_field (coded_pictures z) = ap (λ (l : Units). first_field (coded_pictures l)) (cut_units z are) in
    record {
      fu = a.fu ++ z;
      whole = a.whole ∙ sym (append_assoc a.fu z bu);
      front = record {
        piece = record { parts = a.parts ++ p.parts; others = p.others; state = p.state; run = run_then (run_before z first a.run) p.run; later = p.later };
        known = run_known p.run a.known;
      };
      waits = subst (λ (n : ℕ). Waits (next_waits w n) (p.state).waiting) (sym field) waits;
    }

-- ---- where a stream begins

front_read : (body rs : Units) (r : ReadOn (body ++ rs)) (h : List ℕ) (t bu : Units) → body ≡ (h ∷ t) ++ bu → is_sequence h ≡ true → NoEnds (h ∷ t) → BeginsPiece (bu ++ rs) → FrontRead body rs r (h ∷ t) bu
front_read body rs r h t bu e is goes begins =
    let i = split r.ends (h ∷ t) (bu ++ rs) (ap (λ (l : Units). l ++ rs) e ∙ append_assoc (h ∷ t) bu rs) begins goes is in
    let f = first_read at_first i.between h t i.mine i.run in
    let q = sequence_start at_first h t f.mid f.p is f.read in
    let run : Run (after at_first (sequence q.s)) f.mid f.later i.between [] = subst (λ (y : Part). Run (after at_first y) f.mid f.later i.between []) q.part f.run in
    record {
      piece = record { parts = i.mine; others = i.others; state = i.between; run = i.run; later = i.later };
      known = run_known run (known_behind at_first q.s);
    }

-- where it ends
pub rest_last : (body rs : Units) (r : ReadOn (body ++ rs)) (h : List ℕ) (t : Units) → body ≡ h ∷ t → is_sequence h ≡ true → NoEnds (h ∷ t) → BeginsPiece rs → OtherFirst rs → AtRest body []
rest_last body rs r h t e is goes begins other =
    let whole : body ≡ (h ∷ t) ++ [] = e ∙ sym (append-nil (h ∷ t)) in
    let f = front_read body rs r h t [] whole is goes begins in
    rest_run body (h ∷ t) [] f.parts f.state whole f.run (paired_end f.later begins other f.known r.paired)

-- behind its first piece
pub at_first_piece : (body rs : Units) (r : ReadOn (body ++ rs)) (h : List ℕ) (t bu : Units) → body ≡ (h ∷ t) ++ bu → is_sequence h ≡ true → NoEnds (h ∷ t) → BeginsPiece (bu ++ rs) → Quiet false (h ∷ t) → has_picture (h ∷ t) ≡ true → At body rs r (next_waits 0 (first_field (coded_pictures (h ∷ t)))) bu
at_first_piece body rs r h t bu e is goes begins quiet has =
    let f = front_read body rs r h t bu e is goes begins in
    record {
      fu = h ∷ t;
      whole = e;
      front = f;
      waits = piece_waits f.run refl 0 (inr is) quiet has refl;
    }

-- ---- where a picture follows that is no second field

no_field : (o : Option FirstField) (w : ℕ) (vs mid : Units) (st : State) (info : PictureInfo) (extension : PictureExtension) → st.waiting ≡ o → Waits w o → PictureThere st vs mid info extension → second_by w (field_by (next_unit vs)) ≡ false → none_waits o ≡ true
no_field None w vs mid st info extension e h t off = refl
no_field (Some f) w vs mid st info extension e h t off =
    let due : is_second_field_due (Some f) info extension ≡ true = ap (λ (x : Option FirstField). is_second_field_due x info extension) (sym e) ∙ t.due in
    let s = second_is w f info extension h.0 h.1 t.some due in
    let field : field_by (next_unit vs) ≡ extension.structure = ap (λ (l : Units). field_by (next_unit l)) t.is ∙ field_is t.v extension.structure t.value t.seen false s.0 in
    let wrong : false ≡ true = sym off ∙ ap (second_by w) field ∙ s.1 in
    absurd cc

part_picture : (st : State) (v : List ℕ) (vs mid : Units) (p : Part) → is_picture v ≡ true → PartOf v vs p mid → (info : PictureInfo) × (extension : PictureExtension) × (p ≡ picture info extension)
part_picture st v vs mid p on (of_sequence x is e value) = absurd (both_ways (is_picture v) (ap (λ (n : ℕ). nat_eq n 0x00) (eqb-true (value_of v) 0xB3 is)) on)
part_picture st v vs mid p on (of_group end is stands e) = absurd (both_ways (is_picture v) (ap (λ (n : ℕ). nat_eq n 0x00) (eqb-true (value_of v) 0xB8 is)) on)
part_picture st v vs mid p on (of_picture {info = info} {extension = extension} x is e value kind structure) = (info, extension, refl)
part_picture st v vs mid p on (of_other a b c o e) = absurd (both_ways (is_picture v) c on)

rest_picture : (body rs : Units) (r : ReadOn (body ++ rs)) (w : ℕ) (v : List ℕ) (vs bu : Units) → At body rs r w ((v ∷ vs) ++ bu) → BeginsPiece (bu ++ rs) → NoEnds (v ∷ vs) → is_picture v ≡ true → second_by w (first_field (coded_pictures (v ∷ vs))) ≡ false → AtRest body ((v ∷ vs) ++ bu)
rest_picture body rs r w v vs bu a begins goes on off =
    let p = piece_read body rs r w (v ∷ vs) bu a begins goes in
    let f = first_read a.state p.state v vs p.parts p.run in
    let part = part_of a.state v vs f.mid f.p (inl a.known) f.read in
    let x = part_picture a.state v vs f.mid f.p on part in
    let t = picture_there a.state v vs f.mid x.0 x.1 a.known on (subst (λ (y : Part). unit_read a.state (v ∷ vs) ≡ good ((true, y), f.mid)) x.2 f.read) in
    let second : second_by w (field_by (next_unit vs)) ≡ false = ap (second_by w) (sym (ap first_field (shown_first v vs on))) ∙ off in
    rest_by body rs r w ((v ∷ vs) ++ bu) a (no_field (a.state).waiting w vs f.mid a.state x.0 x.1 refl a.waits t second)

-- ---- where a span begins

-- a piece behind others that is no entry begins with a picture
first_picture : (v : List ℕ) (vs : Units) → AreUnits (v ∷ vs) → begins_piece (value_of v) ≡ true → is_end (value_of v) ≡ false → is_entry (joined (v ∷ vs)) ≡ false → is_picture v ≡ true
unfolding begins_piece is_end has_sequence group_headers
first_picture v vs are begins goes none =
    let same : units_of (joined (v ∷ vs)) ≡ v ∷ vs = cut_units (v ∷ vs) are in
    let h : (has_sequence (v ∷ vs) || has_group (v ∷ vs)) ≡ false = subst (λ (l : Units). (has_sequence l || has_group l) ≡ false) same none in
    let p = or_parts (has_sequence (v ∷ vs)) (has_group (v ∷ vs)) h in
    let s : is_sequence v ≡ false = (or_parts (is_sequence v) (has_sequence vs) p.0).0 in
    let g : is_group v ≡ false = no_group (is_group v) (group_headers vs) refl p.1 in
    last_one (nat_eq (value_of v) 0x00) (rw (s, goes, g) at begins)
  where
    no_group : (b : Bool) (n : ℕ) → is_group v ≡ b → nat_le 1 ((if b then 1 else 0) + n) ≡ false → b ≡ false
    no_group true n e h = let wrong : false ≡ true = sym h ∙ le-leb 1 (1 + n) (omega arith) in absurd cc
    no_group false n e h = refl

    last_one : (b : Bool) → (b || false || false || false) ≡ true → b ≡ true
    last_one true e = refl
    last_one false e = absurd cc

-- whichever way one begins
pub boundary : (body rs : Units) (r : ReadOn (body ++ rs)) (w : ℕ) (z bu : Units) → At body rs r w (z ++ bu) → AreUnits z → BeginsOne z → NoEnds z → BeginsPiece (bu ++ rs) → (is_entry (joined z) ≡ true) ⊎ (is_second w (joined z) ≡ false) → (is_entry (joined z) ≡ true → OtherFirst ((z ++ bu) ++ rs)) → AtRest body (z ++ bu)
boundary body rs r w [] bu a are begins goes more how other = absurd begins
boundary body rs r w (v ∷ vs) bu a are begins goes more how other =
    elim (cases_Bool (is_entry (joined (v ∷ vs)))) [
      | inl on ↦ rest_entry body rs r w ((v ∷ vs) ++ bu) a begins.0 (other on)
      | inr off ↦ rest_picture body rs r w v vs bu a more goes (first_picture v vs are begins.0 goes.0 off) (second_off how off)
    ]
  where
    field : field_of (joined (v ∷ vs)) ≡ first_field (coded_pictures (v ∷ vs))
    field = ap (λ (l : Units). first_field (coded_pictures l)) (cut_units (v ∷ vs) are)

    second_off : (is_entry (joined (v ∷ vs)) ≡ true) ⊎ (is_second w (joined (v ∷ vs)) ≡ false) → is_entry (joined (v ∷ vs)) ≡ false → second_by w (first_field (coded_pictures (v ∷ vs))) ≡ false
    second_off (inl on) off = absurd (both_ways (is_entry (joined (v ∷ vs))) off on)
    second_off (inr second) off = ap (second_by w) (sym field) ∙ second
