-- Two runs of one sequence, of which one stands further on: what each step does to both.
use Rattle.std.proofs.Common.{◌≡◌, ℕ, ◌+◌, ◌-◌, ◌*◌, Bool, true, false, List, [], ◌∷◌, ◌++◌, length, Result, Ok, Err, Option, Some, None, refl, sym, ap, subst, ◌∙◌, arith}
use Rattle.std.specs.Prelude.{nat_eq, ◌||◌, map, slice_get, if◌then◌else◌}
use Rattle.std.specs.Option.{option_map}
use Rattle.std.proofs.lemmas.List.{map-append}
use Rattle.m2v_model.specs.m2v_macroblock.m2v_head.declared.sequence.SequenceInfo.{SequenceInfo}
use Rattle.m2v_model.specs.m2v_macroblock.m2v_head.declared.sequence.SequenceExtension.{SequenceExtension}
use Rattle.m2v_model.specs.m2v_macroblock.m2v_head.declared.group.GroupInfo.{GroupInfo}
use Rattle.m2v_model.specs.declared.fault.FaultKind.{FaultKind}
use Rattle.m2v_model.specs.declared.state.Sequence.{Sequence}
use Rattle.m2v_model.specs.declared.notes.PictureNote.{PictureNote}
use Rattle.m2v_model.specs.Units.{Units, cut, body}
use Rattle.m2v_model.specs.Headers.{whole_header, group_in}
use Rattle.m2v_model.specs.Streams.{value_of}
use Rattle.m2v_model.specs.States.{first_or, is_b}
use Rattle.m2v_model.specs.PieceNotes.{PieceNotes}
use Rattle.m2v_model.specs.Lawful.{sequence_breaches}
use Rattle.m2v_audit.specs.m2v_check.declared.coded.CodedPicture.{CodedPicture}
use Rattle.m2v_audit.specs.m2v_check.Running.{ends_frame}
use Rattle.m2v_audit.specs.m2v_strict.declared.runs.Runs.{Runs}
use Rattle.m2v_audit.specs.declared.account.Due.{Due}
use Rattle.m2v_audit.specs.m2v_strict.ParityRules.{has_parity, shown_with, last_with, parity_with}
use Rattle.m2v_audit.specs.m2v_strict.declared.parity.Parity.{Parity}
use Rattle.m2v_audit.specs.m2v_strict.declared.parity.ShownFrame.{ShownFrame}
use Rattle.m2v_audit.specs.declared.auditing.Auditing.{Auditing}
use Rattle.m2v_audit.specs.declared.headers.PieceHeader.{PieceHeader}
use Rattle.m2v_audit.specs.declared.headers.PieceHeader.TheVariants as headers
use Rattle.m2v_audit.specs.declared.places.Places.{Places}
use Rattle.m2v_audit.specs.declared.places.Waiting.{Waiting}
use Rattle.m2v_audit.specs.declared.words.RateKind.{RateKind}
use Rattle.m2v_audit.specs.Account.{Account, settled}
use Rattle.m2v_audit.specs.Auditing.{sequence_of, leading, behind, ends_code, with_ending, frame_at, with_shown, with_parity, longer, with_first, begun_by, begun, with_sequence, with_group, with_header, sequences_of, with_headers, coded, preceding, counted, with_told, with_place, due_of, account_by, with_account, with_coded, with_note, settled_by, pictured, with_settled}
use Rattle.m2v_audit.specs.HeaderRecords.{sequence_record, group_record, bit_of, picture_record, waiting_of}
use Rattle.m2v_audit.specs.Findings.{with_misplaced, with_removals}
use Rattle.m2v_audit.specs.Front.{group_told, group_at, header_at, headers_from, front_of}
use Rattle.m2v_audit.specs.Lines.{sequence_line, group_line, picture_line}
use Rattle.m2v_audit.specs.Opening.{kind_of}
use Rattle.m2v_audit.specs.Places.{with_frame, told_with_frame, told_at_close}
use Rattle.m2v_audit.specs.Report.{Report}
use Rattle.m2v_audit.specs.Times.{fields_of}
use Rattle.m2v_law_audit.proofs.MovedReports.{Together, breaches_at, misplaced_told, sequence_remarks_come, group_remarks_come, removals_told, begin_comes, group_comes, picture_comes, rules_come, end_on, arrival_on, shown_on, shown_come, all_remarks_come, same_runs, note_on, coded_on, due_on}
use Rattle.m2v_law_audit.proofs.MovedKept.{waiting_on, places_on, frame_told, frame_kept, close_told, account_on, settled_same, after_same, more_same, account_same}

-- the parity of fields, so many bytes further on
abbrev pub parity_on : ℕ → Parity → Parity
parity_on k o = record o { anchor = option_map (shown_on k) o.anchor }

-- what is kept of a sequence so many bytes further on, beside another report
abbrev pub beside : ℕ → Report → Auditing → Auditing
beside k r a = record a {
  report = r;
  start = a.start + k;
  places = places_on k a.places;
  account = option_map (account_on k) a.account;
  parity = parity_on k a.parity;
  last = option_map (end_on k) a.last;
  arrival = option_map (arrival_on k) a.arrival;
}

-- one state is the other so many sequences and so many bytes further on
pub record Moves (n k : ℕ) (a b : Auditing) : Type 0 where
  pub report : Together n k a.report b.report
  pub rest : b ≡ beside k b.report a

-- a step on both
abbrev pub Steps : ℕ → ℕ → Auditing → Auditing → (Auditing → Auditing) → Type 0
Steps n k a next step = (r : Report) → Together n k a.report r → Moves n k next (step (beside k r a))

pub step_both : {n k : ℕ} {a b : Auditing} (next : Auditing) (step : Auditing → Auditing) → Moves n k a b → Steps n k a next step → Moves n k next (step b)
step_both {n} {k} {a} {b} next step h by = subst (λ (x : Auditing). Moves n k next (step x)) (sym h.rest) (by b.report h.report)

choose_both : {n k : ℕ} (c : Bool) (a b x y : Auditing) → Moves n k a x → Moves n k b y → Moves n k (if c then a else b) (if c then x else y)
choose_both true a b x y h g = h
choose_both false a b x y h g = g

pub longer_both : {n k : ℕ} {a b : Auditing} (bytes : ℕ) → Moves n k a b → Moves n k (longer bytes a) (longer bytes b)
longer_both {n} {k} {a} bytes h = step_both (longer bytes a) (longer bytes) h (λ r t. record { report = t; rest = refl })

-- ---- the beginning

pub further : (k place : ℕ) → 8 * (place + k) ≡ 8 * place + 8 * k
further k place = omega arith

as_far : (k place start : ℕ) → place + k - (start + k) ≡ place - start
as_far k place start = omega arith

abbrev begin_line : ℕ → ℕ → Sequence → Option PictureNote → List ℕ
begin_line number bit s n = sequence_line (sequence_record number bit s (kind_of s n))

module _ {n k : ℕ} (a : Auditing) (r : Report) (place : ℕ) (s : Sequence) (t : Together n k a.report r) where
  begin_both : (p q : Option PictureNote) → kind_of s q ≡ kind_of s p
      → Together n k (with_first a place s p).report (with_first (beside k r a) (place + k) s q).report
  begin_both p q e =
      begin_comes (place - a.start) (place + k - (a.start + k)) a.start
      (sequence_record a.report.sequence (8 * place) s (kind_of s p)) (sequence_record r.sequence (8 * (place + k)) s (kind_of s q))
      (as_far k place a.start)
      (ap (λ (m : ℕ). sequence_line (sequence_record m (8 * (place + k)) s (kind_of s q))) t.sequence
      ∙ ap (λ (m : ℕ). sequence_line (sequence_record (a.report.sequence + n) m s (kind_of s q))) (further k place)
      ∙ ap (λ (m : RateKind). sequence_line (sequence_record (a.report.sequence + n) (8 * place + 8 * k) s m)) e)
      t

  first_both : (p : Option PictureNote) → Moves n k (with_first a place s p) (with_first (beside k r a) (place + k) s (option_map (note_on k) p))
  first_both None = record { report = begin_both None None refl; rest = refl }
  first_both (Some p) = record { report = begin_both (Some p) (Some (note_on k p)) refl; rest = refl }

-- the notes of a piece so many bytes further on
abbrev pub notes_on : ℕ → PieceNotes → PieceNotes
notes_on k notes = record notes { picture = option_map (note_on k) notes.picture }

begun_with : {n k : ℕ} (a : Auditing) (r : Report) (first : Option Sequence) (place : ℕ) (notes : PieceNotes) → Together n k a.report r
    → Moves n k (begun first a place notes) (begun first (beside k r a) (place + k) (notes_on k notes))
begun_with a r (Some first) place notes t = record { report = t; rest = refl }
begun_with {n} {k} a r None place notes t = by (slice_get notes.sequences 0)
  where
    by : (s : Option (SequenceInfo × SequenceExtension)) → Moves n k (begun_by a place s notes.picture) (begun_by (beside k r a) (place + k) s (option_map (note_on k) notes.picture))
    by None = record { report = t; rest = refl }
    by (Some s) = first_both a r place (sequence_of s) t notes.picture

pub begun_both : {n k : ℕ} {a b : Auditing} (place : ℕ) (notes : PieceNotes) → Moves n k a b → Moves n k (begun a.first a place notes) (begun b.first b (place + k) (notes_on k notes))
begun_both {n} {k} {a} place notes m = step_both (begun a.first a place notes) (λ x. begun x.first x (place + k) (notes_on k notes)) m (λ r t. begun_with a r a.first place notes t)

-- ---- headers

abbrev pub header_on : ℕ → PieceHeader → PieceHeader
header_on k (headers.Sequence bit) = headers.Sequence (bit + 8 * k)
header_on k (headers.Group bit g) = headers.Group (bit + 8 * k) g

group_both : {n k : ℕ} {a b : Auditing} (bit : ℕ) (g : GroupInfo) → Moves n k a b → Moves n k (with_group a bit g) (with_group b (bit + 8 * k) g)
group_both {n} {k} {a} bit g h = step_both (with_group a bit g) (λ x. with_group x (bit + 8 * k) g) h (λ r t. record {
  report =
      group_remarks_come a.rules (behind a) a.pictures bit a.sequence g
      (group_comes (group_record a.report.sequence a.groups bit a.pictures g) (group_record r.sequence a.groups (bit + 8 * k) a.pictures g)
      (ap (λ (q : ℕ). group_line (group_record q a.groups (bit + 8 * k) a.pictures g)) t.sequence)
      (misplaced_told (told_at_close a.places) (told_at_close (places_on k a.places)) (close_told k a.places) t));
  rest = refl;
})

header_both : {n k : ℕ} {a b : Auditing} (h : PieceHeader) (s : Option (SequenceInfo × SequenceExtension)) → Moves n k a b → Moves n k (with_header a h s) (with_header b (header_on k h) s)
unfolding with_header
header_both (headers.Sequence bit) None m = m
header_both {n} {k} {a} (headers.Sequence bit) (Some s) m = step_both (with_sequence a bit (sequence_of s)) (λ x. with_sequence x (bit + 8 * k) (sequence_of s)) m
    (λ r t. record {
      report =
          sequence_remarks_come a.rules a.like (leading a) a.pictures bit (first_or a.first (sequence_of s)) (sequence_of s)
          (breaches_at a.pictures bit (bit + 8 * k) (sequence_breaches (sequence_of s ∷ [])) refl t);
      rest = refl;
    })
header_both (headers.Group bit g) s m = group_both bit g m

counts_same : (k : ℕ) (h : PieceHeader) → sequences_of (header_on k h) ≡ sequences_of h
unfolding sequences_of
counts_same k (headers.Sequence bit) = refl
counts_same k (headers.Group bit g) = refl

headers_both : {n k : ℕ} (a b : Auditing) (ss : List (SequenceInfo × SequenceExtension)) (j : ℕ) (hs : List PieceHeader) → Moves n k a b → Moves n k (with_headers a ss j hs) (with_headers b ss j (map (header_on k) hs))
unfolding with_headers
headers_both a b ss j [] m = m
headers_both {n} {k} a b ss j (h ∷ hs) m =
    let next = with_header a h (slice_get ss j) in
    let other = with_header b (header_on k h) (slice_get ss j) in
    subst (λ (c : ℕ). Moves n k (with_headers next ss (j + sequences_of h) hs) (with_headers other ss (j + c) (map (header_on k) hs))) (sym (counts_same k h))
    (headers_both next other ss (j + sequences_of h) hs (header_both h (slice_get ss j) m))

-- lists that stand further on by the same map
pub lists_chosen : {T : Type 0} (on : T → T) (b : Bool) (xs ys us vs : List T) → xs ≡ map on us → ys ≡ map on vs → (if b then xs else ys) ≡ map on (if b then us else vs)
lists_chosen on true xs ys us vs e f = e
lists_chosen on false xs ys us vs e f = f

next_bit : (k bit bytes : ℕ) → bit + 8 * k + 8 * bytes ≡ bit + 8 * bytes + 8 * k
next_bit k bit bytes = omega arith

-- a list of what stands in each unit, up to one that ends it
module _ {T : Type 0} (k : ℕ) (on : T → T) (at : ℕ → List ℕ → List T) (each : (bit : ℕ) (u : List ℕ) → at (bit + 8 * k) u ≡ map on (at bit u))
    (ends : ℕ → Bool) (from : ℕ → Units → List T) (none : (bit : ℕ) → from bit [] ≡ [])
    (step : (bit : ℕ) (u : List ℕ) (us : Units) → from bit (u ∷ us) ≡ (if ends (value_of u) then [] else at bit u ++ from (bit + 8 * length u) us)) where
  pub list_further : (bit : ℕ) (us : Units) → from (bit + 8 * k) us ≡ map on (from bit us)
  list_further bit [] = none (bit + 8 * k) ∙ sym (ap (map on) (none bit))
  list_further bit (u ∷ us) =
      let here = at bit u in
      let next = from (bit + 8 * length u) us in
      let rest : from (bit + 8 * k + 8 * length u) us ≡ map on next =
      ap (λ (m : ℕ). from m us) (next_bit k bit (length u)) ∙ list_further (bit + 8 * length u) us in
      step (bit + 8 * k) u us
      ∙ lists_chosen on (ends (value_of u)) [] _ [] (here ++ next) refl ((λ i. each bit u i ++ rest i) ∙ sym (map-append on here next))
      ∙ sym (ap (map on) (step bit u us))

-- where headers stand
module _ (k : ℕ) where
  group_further : (bit : ℕ) (x : Result (GroupInfo × List Bool) (FaultKind × ℕ)) → group_told (bit + 8 * k) x ≡ map (header_on k) (group_told bit x)
  group_further bit (Ok x) = refl
  group_further bit (Err f) = refl

  header_further : (bit : ℕ) (u : List ℕ) → header_at (bit + 8 * k) u ≡ map (header_on k) (header_at bit u)
  unfolding header_at group_at
  header_further bit u =
      lists_chosen (header_on k) (nat_eq (value_of u) 0xB3) _ _ (headers.Sequence bit ∷ []) _ refl
      (lists_chosen (header_on k) (nat_eq (value_of u) 0xB8) _ _ (group_told bit ((whole_header group_in).read (body u))) [] (group_further bit ((whole_header group_in).read (body u))) refl)

  headers_further : (bit : ℕ) (us : Units) → headers_from (bit + 8 * k) us ≡ map (header_on k) (headers_from bit us)
  unfolding headers_from
  headers_further = list_further k (header_on k) header_at header_further (λ value. nat_eq value 0x00) headers_from (λ bit. refl) (λ bit u us. refl)

  front_further : (place : ℕ) (piece : List ℕ) → front_of (place + k) piece ≡ map (header_on k) (front_of place piece)
  front_further place piece =
      ap (λ (bit : ℕ). headers_from bit (cut 0 piece).1) (further k place) ∙ headers_further (8 * place) (cut 0 piece).1

-- the headers of a piece
pub front_both : {n k : ℕ} {a b : Auditing} (ss : List (SequenceInfo × SequenceExtension)) (place : ℕ) (piece : List ℕ) → Moves n k a b
    → Moves n k (with_headers a ss 0 (front_of place piece)) (with_headers b ss 0 (front_of (place + k) piece))
front_both {n} {k} {a} {b} ss place piece m =
    subst (λ (hs : List PieceHeader). Moves n k (with_headers a ss 0 (front_of place piece)) (with_headers b ss 0 hs)) (sym (front_further k place piece))
    (headers_both a b ss 0 (front_of place piece) m)

-- ---- a picture

-- its start code begins so many bytes further on
abbrev pub IsFurther : ℕ → PictureNote → Type 0
IsFurther k p = bit_of (note_on k p) ≡ bit_of p + 8 * k

counted_both : {n k : ℕ} {a b : Auditing} (p : CodedPicture) → Moves n k a b → Moves n k (counted a p) (counted b (coded_on k p))
counted_both {n} {k} {a} p m = step_both (counted a p) (λ x. counted x (coded_on k p)) m (λ r t. record { report = t; rest = refl })

abbrev line_at : ℕ → ℕ → CodedPicture → ℕ → ℕ → List ℕ
line_at number bit p bytes zeros = picture_line (record (picture_record number p bytes zeros) { bit = bit })

told_both : {n k : ℕ} {a b : Auditing} (p : CodedPicture) (bytes zeros : ℕ) → IsFurther k p.note → Moves n k a b
    → Moves n k (with_told a p bytes zeros) (with_told b (coded_on k p) bytes zeros)
told_both {n} {k} {a} p bytes zeros e m = step_both (with_told a p bytes zeros) (λ x. with_told x (coded_on k p) bytes zeros) m (λ r t. record {
  report =
      all_remarks_come a.rules (preceding a p.sequence) a.constant a.runs p e
      (rules_come a.constant p e
      (picture_comes (picture_record a.report.sequence p bytes zeros) (picture_record r.sequence (coded_on k p) bytes zeros)
      (ap (λ (q : ℕ). line_at q (bit_of (note_on k p.note)) p bytes zeros) t.sequence
      ∙ ap (λ (bit : ℕ). line_at (a.report.sequence + n) bit p bytes zeros) e)
      t));
  rest =
      ap (λ (x : Runs). record (beside k (with_told (beside k r a) (coded_on k p) bytes zeros).report a) { headed = false; runs = x })
      (same_runs k a.runs p (fields_of p.sequence p.note));
})

-- as it waits for its place
waiting_further : (k : ℕ) (p : CodedPicture) → IsFurther k p.note → waiting_of (coded_on k p) ≡ waiting_on k (waiting_of p)
waiting_further k p e = ap (λ (bit : ℕ). record (waiting_of p) { bit = bit }) e

place_both : {n k : ℕ} {a b : Auditing} (p : CodedPicture) → IsFurther k p.note → Moves n k a b → Moves n k (with_place a p) (with_place b (coded_on k p))
place_both {n} {k} {a} p e m = step_both (with_place a p) (λ x. with_place x (coded_on k p)) m (λ r t.
    let b = is_b p.note.info.kind in
    let w = waiting_further k p e in
    let told = told_with_frame (places_on k a.places) (waiting_of (coded_on k p)) b in
    choose_both (ends_frame p.note) _ _ _ _
    (record {
      report =
          misplaced_told (told_with_frame a.places (waiting_of p) b) told
          (ap (λ (x : Waiting). told_with_frame (places_on k a.places) x b) w ∙ frame_told k a.places (waiting_of p) b)
          t;
      rest = ap (λ (o : Places). record (beside k (with_misplaced r told) a) { places = o })
          (ap (λ (x : Waiting). with_frame (places_on k a.places) x b) w ∙ frame_kept k a.places (waiting_of p) b);
    })
    (record { report = t; rest = ap (λ (x : Waiting). record (beside k r a) { places = record (places_on k a.places) { begun = Some x } }) w }))

-- the frame that is shown by it
frame_further : (k : ℕ) (p : CodedPicture) → IsFurther k p.note → frame_at (coded_on k p) ≡ shown_on k (frame_at p)
frame_further k p e = ap (λ (bit : ℕ). record (frame_at p) { bit = bit }) e

option_chosen : (k : ℕ) (b : Bool) (x y u v : Option ShownFrame) → x ≡ option_map (shown_on k) u → y ≡ option_map (shown_on k) v
    → (if b then x else y) ≡ option_map (shown_on k) (if b then u else v)
option_chosen k true x y u v e f = e
option_chosen k false x y u v e f = f

shown_same : (k : ℕ) (o : Parity) (f : ShownFrame) (b : Bool) → shown_with (parity_on k o) (shown_on k f) b ≡ option_map (shown_on k) (shown_with o f b)
shown_same k o f b = option_chosen k (o.low_delay || b) _ _ (Some f) o.anchor refl refl

last_same : (k : ℕ) (last : Option Bool) (f : Option ShownFrame) → last_with last (option_map (shown_on k) f) ≡ last_with last f
last_same k last None = refl
last_same k last (Some f) = refl

parity_same : (k : ℕ) (o : Parity) (f : ShownFrame) (b : Bool) → parity_with (parity_on k o) (shown_on k f) b ≡ parity_on k (parity_with o f b)
parity_same k o f b =
    let shown = shown_with o f b in
    ap (λ (s : Option ShownFrame). record (parity_with (parity_on k o) (shown_on k f) b) { last = last_with o.last s }) (shown_same k o f b)
    ∙ ap (λ (l : Option Bool). record (parity_with (parity_on k o) (shown_on k f) b) { last = l }) (last_same k o.last shown)
    ∙ ap (λ (s : Option ShownFrame). record { low_delay = o.low_delay; last = last_with o.last shown; anchor = s })
    (option_chosen k (o.low_delay || b) _ _ o.anchor (Some f) refl refl)

fields_come : {n k : ℕ} {r s : Report} (c : Bool) (o : Parity) (f : ShownFrame) (b : Bool) → Together n k r s
    → Together n k (if c then with_shown r o.last (shown_with o f b) else r)
    (if c then with_shown s o.last (shown_with (parity_on k o) (shown_on k f) b) else s)
fields_come {n} {k} {r} {s} true o f b t =
    subst (λ (x : Option ShownFrame). Together n k (with_shown r o.last (shown_with o f b)) (with_shown s o.last x)) (sym (shown_same k o f b))
    (shown_come o.last (shown_with o f b) t)
fields_come false o f b t = t

parity_chosen : (k : ℕ) (c : Bool) (x u o : Parity) → x ≡ parity_on k u → (if c then x else parity_on k o) ≡ parity_on k (if c then u else o)
parity_chosen k true x u o e = e
parity_chosen k false x u o e = refl

parity_both : {n k : ℕ} {a b : Auditing} (p : CodedPicture) → IsFurther k p.note → Moves n k a b → Moves n k (with_parity a p) (with_parity b (coded_on k p))
parity_both {n} {k} {a} p e m = step_both (with_parity a p) (λ x. with_parity x (coded_on k p)) m (λ r t.
    let is = is_b p.note.info.kind in
    let frame = frame_at p in
    let there = frame_further k p e in
    let told : Report = if has_parity p then with_shown r a.parity.last (shown_with (parity_on k a.parity) (frame_at (coded_on k p)) is) else r in
    record {
      report =
          subst (λ (f : ShownFrame). Together n k (with_parity a p).report (if has_parity p then with_shown r a.parity.last (shown_with (parity_on k a.parity) f is) else r))
          (sym there) (fields_come (has_parity p) a.parity frame is t);
      rest =
          ap (λ (o : Parity). record (beside k told a) { parity = o })
          (ap (λ (f : ShownFrame). if has_parity p then parity_with (parity_on k a.parity) f is else parity_on k a.parity) there
          ∙ parity_chosen k (has_parity p) _ (parity_with a.parity frame is) a.parity (parity_same k a.parity frame is));
    })

-- as the buffer sees it
abbrev due_with : Due → ℕ → ℕ → Due
due_with d bit code_bits = record d { bit = bit; code_bits = code_bits }

code_same : (k place code_end : ℕ) → code_end + 8 * k - 8 * (place + k) ≡ code_end - 8 * place
code_same k place code_end = omega arith

due_further : (k : ℕ) (a : Auditing) (p : CodedPicture) (place bytes : ℕ) (r : Report) → IsFurther k p.note → due_of (beside k r a) (coded_on k p) (place + k) bytes ≡ due_on k (due_of a p place bytes)
due_further k a p place bytes r e =
    let d : Due = due_of a p place bytes in
    ap (λ (bit : ℕ). due_with d bit (p.note.code_end + 8 * k - 8 * (place + k))) e
    ∙ ap (λ (code : ℕ). due_with d (bit_of p.note + 8 * k) code) (code_same k place p.note.code_end)

account_both : {n k : ℕ} {a b : Auditing} (p : CodedPicture) (place bytes : ℕ) → IsFurther k p.note → Moves n k a b → Moves n k (with_account a p place bytes) (with_account b (coded_on k p) (place + k) bytes)
account_both {n} {k} {a} p place bytes e m = step_both (with_account a p place bytes) (λ x. with_account x (coded_on k p) (place + k) bytes) m (λ r t. record {
  report = t;
  rest = ap (λ (x : Option Account). record (beside k r (with_account a p place bytes)) { account = x })
      (ap (λ (d : Due). account_by (option_map (account_on k) a.account) a.first (note_on k p.note) d) (due_further k a p place bytes r e)
      ∙ account_same k a.account a.first p.note (due_of a p place bytes));
})

coded_both : {n k : ℕ} {a b : Auditing} (p : CodedPicture) (place bytes zeros : ℕ) → IsFurther k p.note → Moves n k a b → Moves n k (with_coded a p place bytes zeros) (with_coded b (coded_on k p) (place + k) bytes zeros)
coded_both p place bytes zeros e m = account_both p place bytes e (parity_both p e (place_both p e (told_both p bytes zeros e (counted_both p m))))

-- of a piece's picture, where it has one
abbrev pub AreFurther : ℕ → Option PictureNote → Type 0
AreFurther k None = Unit {0}
AreFurther k (Some p) = IsFurther k p

note_both : {n k : ℕ} (a : Auditing) (r : Report) (s : Option Sequence) (p : Option PictureNote) (place bytes ending : ℕ) → AreFurther k p → Together n k a.report r
    → Moves n k (with_note a s p place bytes ending) (with_note (beside k r a) s (option_map (note_on k) p) (place + k) bytes ending)
note_both {n} {k} a r s None place bytes ending e t = record {
  report = t;
  rest = ap (λ (x : Option Account). record (beside k r a) { account = x }) (more_same k a.account (8 * bytes));
}
note_both a r None (Some p) place bytes ending e t = record { report = t; rest = refl }
note_both {n} {k} a r (Some s) (Some p) place bytes ending e t =
    coded_both {a = a} {b = beside k r a} (coded a s p) place bytes ending e (record { report = t; rest = refl })

pub pictured_both : {n k : ℕ} {a b : Auditing} (p : Option PictureNote) (place bytes zeros : ℕ) → AreFurther k p → Moves n k a b → Moves n k (pictured a place bytes zeros p) (pictured b (place + k) bytes zeros (option_map (note_on k) p))
pictured_both {n} {k} {a} p place bytes zeros e m = step_both (pictured a place bytes zeros p) (λ x. pictured x (place + k) bytes zeros (option_map (note_on k) p)) m
    (λ r t. note_both a r a.sequence p place bytes zeros e t)

-- ---- the end of a piece

end_further : (k place bytes : ℕ) → 8 * (place + k + bytes) ≡ 8 * (place + bytes) + 8 * k
end_further k place bytes = omega arith

pub ending_both : {n k : ℕ} {a b : Auditing} (place : ℕ) (piece : List ℕ) → Moves n k a b
    → Moves n k (with_ending place piece a) (with_ending (place + k) piece b)
ending_both {n} {k} {a} place piece m = step_both (with_ending place piece a) (with_ending (place + k) piece) m (λ r t. record {
  report = t;
  rest = ap (λ (bit : ℕ). record (beside k r a) { last = Some (record { bit = bit; closed = ends_code piece }) }) (end_further k place (length piece));
})

-- ---- removals

settled_with : {n k : ℕ} (a : Auditing) (r : Report) (x : Option Account) → Together n k a.report r → Moves n k (settled_by a x) (settled_by (beside k r a) (option_map (account_on k) x))
settled_with a r None t = record { report = t; rest = refl }
settled_with {n} {k} a r (Some x) t = record {
  report = removals_told a.rate (settled x) (settled (account_on k x)) (settled_same k x) t;
  rest = ap (λ (y : Account). record (beside k (with_removals r a.rate (settled (account_on k x))) a) { account = Some y }) (after_same k x);
}

pub settled_both : {n k : ℕ} {a b : Auditing} → Moves n k a b → Moves n k (with_settled a) (with_settled b)
settled_both {n} {k} {a} m = step_both (with_settled a) (λ x. with_settled x) m (λ r t. settled_with a r a.account t)
