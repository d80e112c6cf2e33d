-- What is answered at the end of an input, and that the mended text was written.
use Rattle.std.proofs.Common.{◌≡◌, ℕ, ◌+◌, ◌-◌, ◌*◌, ◌≤◌, ◌⊎◌, inl, inr, true, false, List, [], ◌∷◌, ◌++◌, length, map, Option, Some, None, Result, Ok, Err, IfErr, OnErr, refl, sym, ap, subst, ◌∙◌, append-nil, arith}
use Rattle.std.specs.Prelude.{nat_eq, if◌then◌else◌}
use Rattle.std.proofs.lemmas.Grind.{flat_map-append}
use Rattle.m2v_port.specs.Ends.{Change, absent}
use Rattle.m2v_port.specs.Port.{Rose, Grows, GrowsByPrefix}
use Rattle.m2v_port.specs.declared.error.PortError.{PortError}
use Rattle.m2v_port.specs.declared.error.PortError.TheVariants as ports
use Rattle.m2v_port.proofs.Runs.{rose_since, grows_absent, prefix_absent, failed_here, moves_nothing, grows_by_all, grows_by_none, prefix_on, prefix_of_more, grows_on}
use Rattle.m2v_model.specs.declared.state.Sequence.{Sequence}
use Rattle.m2v_model.specs.Pieces.{Limit, too_long, too_large}
use Rattle.m2v_model.specs.Units.{joined}
use Rattle.m2v_dec_piece.specs.Putting.{named}
use Rattle.m2v_decode.specs.m2v_dec_piece.Cutting.{Cutting}
use Rattle.m2v_decode.specs.m2v_dec_piece.declared.answer.Piece.{Piece}
use Rattle.m2v_decode.specs.Answers.{OfText}
use Rattle.m2v_law_group.specs.Groups.{end_code}
use Rattle.m2v_law_seam.specs.Spans.{Span, stretches, steps, spans_in}
use Rattle.m2v_law_seam.specs.Seams.{bytes_or_none}
use Rattle.m2v_law_seam.specs.Strands.{reads}
use Rattle.m2v_law_seam.specs.Mending as mending
use Rattle.m2v_law_seam.specs.Mending.{Mending, strands_of, gaps_in, ended_text}
use Rattle.m2v_law_seam.specs.Told as told
use Rattle.m2v_law_seam.specs.Told.{all_kept, some_kept, none_kept, all_groups, all_pictures, left_pictures, kept_answer, answer_by, answer_to}
use Rattle.m2v_law_seam.proofs.Fold.{AllKept, mending_kept}
use Rattle.m2v_mend.specs.declared.answer.Answer.{Answer}
use Rattle.m2v_mend.specs.declared.answer.MendError.{MendError}
use Rattle.m2v_mend.specs.declared.answer.MendError.TheVariants as errors
use Rattle.m2v_mend.specs.declared.folding.Folding.{Folding}
use Rattle.m2v_mend.specs.Listing.{gap_line, lines_of, list_of}
use Rattle.m2v_mend.specs.Answers.{limit_from, mend_limit, answer_told, mended_bytes, IsMended, IsPart, IsOver as PassesOver, Fails}
use Rattle.m2v_mend.specs.Feeding.{stretches_at}
use Rattle.m2v_mend.specs.Gathering.{Tally, nothing_told, behind_stretches, IsTally}
use Rattle.m2v_mend.specs.Making.{gap_told, fault_first, IsMade}
use Rattle.m2v_mend.specs.Strand.{wholes_of}
use Rattle.m2v_mend.specs.Stretching.{Held, Fell, FellOut, IsBehind, Comes, IsCut, PastLimit, IsPast, IsAll, kept_told, held_before, held_after}
use Rattle.m2v_mend.proofs.Gathering.{tallied}
use Rattle.m2v_mend.proofs.Growing.{IsOver, over_ended, done_bytes}
use Rattle.m2v_mend.proofs.Made.{none_under}
use Rattle.m2v_mend.proofs.Stretched.{nothing_left}
use Rattle.m2v_mend.proofs.Passing.{limit_none}
use Rattle.m2v_mend.proofs.Coming.{moved_some, comes_cut, none_past, fell_any}

-- ---- what was made of the whole text

record IsFinal (text written : List ℕ) (listed : List mending.Gap) (end : ℕ) (x : Folding) : Type 0 where
  tally : Tally
  is : IsTally text tally
  made : IsMade written listed tally.made x.mender
  groups : x.groups ≡ tally.groups
  pictures : x.pictures ≡ tally.pictures
  over : IsOver tally.made
  size : end ≡ length text
  bytes : written ≡ joined tally.made.done
  gaps : gaps_in steps text ≡ listed ++ map gap_told x.mender.gaps.items
  fits : mend_limit text ≡ None

final : (c : Cutting) (x : Folding) (end : ℕ) (text written : List ℕ) (listed : List mending.Gap) (rest : List ℕ) → c.place ≡ end → x.mender.out.items ≡ [] → IsBehind false c x text written listed rest → IsFinal text written listed end x
final c x end text written listed rest place none b =
    let s = b.before in
    let t = s.tally in
    let left = b.none refl in
    let f = s.folded c.place (omega arith) in
    let whole : behind_stretches nothing_told (stretches text) ≡ t = s.made ∙ ap (λ (l : List ℕ). behind_stretches t (stretches_at c.place s.before l)) left ∙ nothing_left t c.place s.before ∙ s.over in
    let over : IsOver t.made = subst (λ (y : Tally). IsOver y.made) s.over (over_ended t) in
    let out : joined (strands_of t.made) ≡ written = f.made.out ∙ ap (λ (l : List Piece). written ++ joined (wholes_of l)) none ∙ append-nil written in
    let is = subst (IsTally text) whole (tallied text) in
    record {
      tally = t;
      is = is;
      made = f.made;
      groups = f.groups;
      pictures = f.pictures;
      over = over;
      size = omega (arith, place, s.total, ap length left);
      bytes = sym out ∙ ap joined (none_under t.made over);
      gaps = ap (λ (m : Mending). m.gaps) (sym is.made) ∙ f.made.gaps;
      fits = s.limits ∙ ap (limit_from s.fuel c.place) left ∙ limit_none s.fuel c.place;
    }

-- ---- whether there is a strand

none_kept_by : (f : Option Sequence) (ss : List (List ℕ)) → AllKept f ss → length (joined ss) ≡ 0 → ss ≡ []
none_kept_by f [] h e = refl
none_kept_by f ([] ∷ ss) h e = absurd (let wrong : reads [] ≡ true = h.0 in cc)
none_kept_by f ((b ∷ s) ∷ ss) h e = absurd (omega (arith, e))

no_strand : (text written : List ℕ) (listed : List mending.Gap) (end : ℕ) (x : Folding) → (f : IsFinal text written listed end x) → x.mender.bytes ≡ 0 → f.tally.made.done ≡ []
no_strand text written listed end x f zero =
    let m = f.tally.made in
    let kept : AllKept m.first (strands_of m) = subst (λ (y : Mending). AllKept y.first (strands_of y)) (sym f.is.made) (mending_kept steps text).kept in
    none_kept_by m.first m.done (subst (AllKept m.first) (none_under m f.over) kept) (sym f.made.bytes ∙ zero)

-- ---- the answer

answer_is : (text : List ℕ) (m : Mending) → m ≡ mending.mending steps text → answer_to steps text ≡ answer_by (8 * length text) m (spans_in steps text) m.done
answer_is text m e = ap (λ (y : Mending). answer_by (8 * length text) y (spans_in steps text) y.done) (sym e)

none_answered : (text written : List ℕ) (listed : List mending.Gap) (end : ℕ) (x : Folding) → (f : IsFinal text written listed end x) → f.tally.made.done ≡ [] → none_kept (fault_first (8 * end) x.mender.fault) ≡ answer_to steps text
none_answered text written listed end x f none =
    let m = f.tally.made in
    ap (λ (n : ℕ). none_kept (fault_first (8 * n) x.mender.fault)) f.size
    ∙ ap none_kept (sym (f.made.fault (8 * length text)))
    ∙ ap (λ (l : List (List ℕ)). answer_by (8 * length text) m (spans_in steps text) l) (sym none)
    ∙ sym (answer_is text m f.is.made)

abbrev by_numbers : ℕ → ℕ → ℕ → ℕ → ℕ → told.Answer
by_numbers left groups all pictures bytes = if nat_eq left 0 then all_kept groups pictures bytes else some_kept groups all (pictures - left) pictures bytes

some_by : (bits : ℕ) (m : Mending) (ss : List (List Span)) (done : List (List ℕ)) → (done ≡ [] → ⊥) → answer_by bits m ss done ≡ kept_answer m ss
some_by bits m ss [] some = absurd (some refl)
some_by bits m ss (s ∷ done) some = refl

some_answered : (text written : List ℕ) (listed : List mending.Gap) (end : ℕ) (x : Folding) → (f : IsFinal text written listed end x) → (f.tally.made.done ≡ [] → ⊥) → kept_told x ≡ answer_to steps text
some_answered text written listed end x f some =
    let m = f.tally.made in
    let ss = spans_in steps text in
    let left : x.mender.left ≡ left_pictures m.gaps = f.made.left in
    let groups : x.mender.groups ≡ m.groups = f.made.groups in
    let all : x.groups ≡ all_groups 0 ss = f.groups ∙ f.is.groups in
    let pictures : x.pictures ≡ all_pictures ss = f.pictures ∙ f.is.pictures in
    let bytes : x.mender.bytes + 4 ≡ length (joined m.done) + length end_code = ap (λ (n : ℕ). n + 4) f.made.bytes in
    let numbers : kept_told x ≡ kept_answer m ss = λ i. by_numbers (left i) (groups i) (all i) (pictures i) (bytes i) in
    numbers ∙ sym (some_by (8 * length text) m ss m.done some) ∙ sym (answer_is text m f.is.made)

-- ---- the mended text

text_is : (text written : List ℕ) (listed : List mending.Gap) (end : ℕ) (x : Folding) → (f : IsFinal text written listed end x) → mended_bytes text ≡ bytes_or_none (ended_text f.tally.made.done)
text_is text written listed end x f = ap (λ (y : Mending). bytes_or_none (ended_text y.done)) (sym f.is.made)

none_text : (text written : List ℕ) (listed : List mending.Gap) (end : ℕ) (x : Folding) → (f : IsFinal text written listed end x) → f.tally.made.done ≡ [] → written ≡ mended_bytes text
none_text text written listed end x f none = f.bytes ∙ ap joined none ∙ sym (text_is text written listed end x f ∙ ap (λ (l : List (List ℕ)). bytes_or_none (ended_text l)) none)

text_by : (done : List (List ℕ)) → (done ≡ [] → ⊥) → joined done ++ end_code ≡ bytes_or_none (ended_text done)
text_by [] some = absurd (some refl)
text_by (s ∷ ss) some = refl

some_text : (text written : List ℕ) (listed : List mending.Gap) (end : ℕ) (x : Folding) → (f : IsFinal text written listed end x) → (f.tally.made.done ≡ [] → ⊥) → written ++ end_code ≡ mended_bytes text
some_text text written listed end x f some = ap (λ (l : List ℕ). l ++ end_code) f.bytes ∙ text_by f.tally.made.done some ∙ sym (text_is text written listed end x f)

part_of_text : (text written : List ℕ) (listed : List mending.Gap) (end : ℕ) (x : Folding) → IsFinal text written listed end x → (more : List ℕ) × (mended_bytes text ≡ written ++ more)
part_of_text text written listed end x f =
    let d = done_bytes f.tally.made.done in
    (d.0, text_is text written listed end x f ∙ d.1 ∙ ap (λ (l : List ℕ). l ++ d.0) (sym f.bytes))

some_strand : (text written : List ℕ) (listed : List mending.Gap) (end : ℕ) (x : Folding) → (f : IsFinal text written listed end x) → (x.mender.bytes ≡ 0 → ⊥) → f.tally.made.done ≡ [] → ⊥
some_strand text written listed end x f some none = some (f.made.bytes ∙ ap (λ (l : List (List ℕ)). length (joined l)) none)

-- ---- the list

-- the lines of the gaps that weren't handed out are what its list has more
list_is : (text written : List ℕ) (listed : List mending.Gap) (end : ℕ) (x : Folding) → IsFinal text written listed end x → lines_of listed ++ lines_of (map gap_told x.mender.gaps.items) ≡ list_of text
list_is text written listed end x f = sym (ap lines_of f.gaps ∙ flat_map-append gap_line listed (map gap_told x.mender.gaps.items))

-- ---- what is known of the folding at the end

module _ (c : Cutting) (x : Folding) (end : ℕ) (first left : Option (List ℕ)) (start held held' : Held) (place : c.place ≡ end) (none : x.mender.out.items ≡ []) (h : Comes (IsBehind false c x) first left start held) where
  -- the lines of the gaps that weren't handed out were written, with what else is told
  all_by : (a : Answer) → Grows held.list (lines_of (map gap_told x.mender.gaps.items)) held'.list
      → ((text : List ℕ) → IsFinal text h.written h.listed end x → (answer_told a ≡ answer_to steps text) × Grows start.text (mended_bytes text) held'.text) → IsAll a first left start held'
  all_by a lines each = record {
    bytes = h.bytes;
    moved = h.moved;
    told = λ rest e.
        let text = h.bytes ++ rest in
        let f = final c x end text h.written h.listed rest place none (h.told rest e) in
        let own = each text f in (
          own.0,
          record { text = own.1; list = subst (λ (l : List ℕ). Grows start.list l held'.list) (list_is text h.written h.listed end x f) (grows_on h.grown.list lines) },
          f.fits,
        );
  }

  -- and nothing or the end code
  pub all_none : (a : Answer) → held'.text ≡ held.text → Grows held.list (lines_of (map gap_told x.mender.gaps.items)) held'.list → x.mender.bytes ≡ 0 → answer_told a ≡ none_kept (fault_first (8 * end) x.mender.fault) → IsAll a first left start held'
  all_none a same lines zero is = all_by a lines (λ text f.
      let no = no_strand text h.written h.listed end x f zero in (
        is ∙ none_answered text h.written h.listed end x f no,
        subst (λ (l : List ℕ). Grows start.text l held'.text) (none_text text h.written h.listed end x f no) (subst (λ (o : Option (List ℕ)). Grows start.text h.written o) (sym same) h.grown.text),
      ))

  pub all_some : (a : Answer) → Grows held.text end_code held'.text → Grows held.list (lines_of (map gap_told x.mender.gaps.items)) held'.list → (x.mender.bytes ≡ 0 → ⊥) → answer_told a ≡ kept_told x → IsAll a first left start held'
  all_some a code lines more is = all_by a lines (λ text f.
      let some = some_strand text h.written h.listed end x f more in (
        is ∙ some_answered text h.written h.listed end x f some,
        subst (λ (l : List ℕ). Grows start.text l held'.text) (some_text text h.written h.listed end x f some) (grows_on h.grown.text code),
      ))

  -- the lines weren't written whole, and nothing more
  pub cut_lines : held'.text ≡ held.text → GrowsByPrefix held.list (lines_of (map gap_told x.mender.gaps.items)) held'.list → IsCut first left start held'
  cut_lines same lines = comes_cut (IsBehind false c x) first left start held held' (λ text written listed rest b grown.
      let f = final c x end text written listed rest place none b in
      let p = part_of_text text written listed end x f in
      let whole = subst (λ (o : Option (List ℕ)). Grows start.text written o) (sym same) grown.text in
      record {
        mended = subst (λ (l : List ℕ). GrowsByPrefix start.text l held'.text) (sym p.1) (prefix_of_more (grows_by_all whole) p.0);
        listed = subst (λ (l : List ℕ). GrowsByPrefix start.list l held'.list) (list_is text written listed end x f) (prefix_on grown.list lines);
      }) h

  -- the end code wasn't written whole
  pub cut_code : (x.mender.bytes ≡ 0 → ⊥) → GrowsByPrefix held.text end_code held'.text → Grows held.list (lines_of (map gap_told x.mender.gaps.items)) held'.list → IsCut first left start held'
  cut_code more code lines = comes_cut (IsBehind false c x) first left start held held' (λ text written listed rest b grown.
      let f = final c x end text written listed rest place none b in
      record {
        mended = subst (λ (l : List ℕ). GrowsByPrefix start.text l held'.text) (some_text text written listed end x f (some_strand text written listed end x f more)) (prefix_on grown.text code);
        listed = subst (λ (l : List ℕ). GrowsByPrefix start.list l held'.list) (list_is text written listed end x f) (grows_by_all (grows_on grown.list lines));
      }) h

-- an error of the one or the other sink comes where that failed
fell_as : (A B : Type 0) → (A → B) → (e : MendError) → FellOut A e → FellOut B e
fell_as A B f errors.Write fell = f fell
fell_as A B f errors.Memory fell = tt
fell_as A B f _ fell = absurd fell

-- an error of one sink
pub fell_named : (Output : Type 0) (e : PortError) → (e ≡ ports.Failed → Output) → FellOut Output (named e errors.Write errors.Memory)
fell_named Output ports.Failed failed = failed refl
fell_named Output ports.Memory failed = tt

-- counts that rose in the last part rose in the whole
pub either_since : {before between now before' between' now' : ℕ} → before ≤ between → before' ≤ between' → (Rose between now ⊎ Rose between' now') → Rose before now ⊎ Rose before' now'
either_since le le' (inl rose) = inl (rose_since le rose)
either_since le le' (inr rose) = inr (rose_since le' rose)

pub fell_since : (before between now before' between' now' : ℕ) (e : MendError) → before ≤ between → before' ≤ between' → FellOut (Rose between now ⊎ Rose between' now') e → FellOut (Rose before now ⊎ Rose before' now') e
fell_since before between now before' between' now' e le le' fell = fell_as (Rose between now ⊎ Rose between' now') (Rose before now ⊎ Rose before' now') (either_since le le') e fell

-- an error of any endpoint
pub fell_so : (Input Output Input' Output' : Type 0) (e : MendError) → (Input → Input') → (Output → Output') → Fell Input Output e → Fell Input' Output' e
fell_so Input Output Input' Output' errors.Read f g fell = f fell
fell_so Input Output Input' Output' errors.Write f g fell = g fell
fell_so Input Output Input' Output' errors.TooLong f g fell = tt
fell_so Input Output Input' Output' errors.PictureTooLarge f g fell = tt
fell_so Input Output Input' Output' errors.Memory f g fell = tt

-- ---- the answer of the whole

-- a prefix was written of each text that begins so
parts : (left held list : Change) → IsCut left.old left.new (held_before held list) (held_after held list) → OfText left (λ text. IsPart text held list)
parts left held list cut = record { bytes = cut.bytes; moved = cut.moved; told = λ rest e. let p = cut.told rest e in record { grown = p.mended; listed = p.listed } }

some_same : (a b : List ℕ) → Some a ≡ Some b → a ≡ b
some_same a b e = cc

over_by : (l : Limit) (left held list : Change) → PastLimit l left.old left.new → IsCut left.old left.new (held_before held list) (held_after held list) → OfText left (λ text. PassesOver text held list l)
over_by l left held list past cut = record {
  bytes = cut.bytes;
  moved = cut.moved;
  told = λ rest e. record {
    passes = subst (λ (t : List ℕ). mend_limit t ≡ Some l) (some_same (past.bytes ++ rest) (cut.bytes ++ rest) (sym (moved_some past.moved e) ∙ moved_some cut.moved e)) (past.told rest e);
    part = let p = cut.told rest e in record { grown = p.mended; listed = p.listed };
  };
}

pub fails_by : (left held list : Change) (e : MendError) → Fell left.Failed (held.Failed ⊎ list.Failed) e → IsPast e left.old left.new → IsCut left.old left.new (held_before held list) (held_after held list) → Fails left held list e
fails_by left held list errors.Read fell past cut = (fell, parts left held list cut)
fails_by left held list errors.Write fell past cut = (fell, parts left held list cut)
fails_by left held list errors.TooLong fell past cut = over_by too_long left held list past cut
fails_by left held list errors.PictureTooLarge fell past cut = over_by too_large left held list past cut
fails_by left held list errors.Memory fell past cut = parts left held list cut

-- nothing was read or written
pub fails_first : (left : Option (List ℕ)) (held : Held) → IsCut left left held held
fails_first left held = record { bytes = []; moved = moves_nothing left; told = λ rest e. record { mended = grows_by_none (mended_bytes ([] ++ rest)); listed = grows_by_none (list_of ([] ++ rest)) } }

pub each_fails : {A : Type 0} (left held list : Change) (r : Result A MendError) → IfErr r (FellOut (held.Failed ⊎ list.Failed)) → OnErr r (IsCut left.old left.new (held_before held list) (held_after held list)) → IfErr r (Fails left held list)
each_fails left held list (Ok a) fell cut = tt
each_fails left held list (Err e) fell cut =
    fails_by left held list e (fell_any left.Failed (held.Failed ⊎ list.Failed) e fell) (none_past (held.Failed ⊎ list.Failed) e left.old left.new fell) cut

pub all_mended : (left held list : Change) (a : Answer) → IsAll a left.old left.new (held_before held list) (held_after held list) → OfText left (λ text. IsMended text held list a)
all_mended left held list a all = record { bytes = all.bytes; moved = all.moved; told = λ rest e. let t = all.told rest e in record { fits = t.2; answer = t.0; grown = t.1.text; listed = t.1.list } }

-- ---- where no list is wanted

pub unlisted_mended : (left held list : Change) (a : Answer) → OfText left (λ text. IsMended text held list a) → OfText left (λ text. IsMended text held absent a)
unlisted_mended left held list a of = record {
  bytes = of.bytes;
  moved = of.moved;
  told = λ rest e. let m = of.told rest e in record { fits = m.fits; answer = m.answer; grown = m.grown; listed = grows_absent (list_of (of.bytes ++ rest)) };
}

unlisted_part : (left held list : Change) → OfText left (λ text. IsPart text held list) → OfText left (λ text. IsPart text held absent)
unlisted_part left held list of = record { bytes = of.bytes; moved = of.moved; told = λ rest e. record { grown = (of.told rest e).grown; listed = prefix_absent (list_of (of.bytes ++ rest)) } }

unlisted_over : (l : Limit) (left held list : Change) → OfText left (λ text. PassesOver text held list l) → OfText left (λ text. PassesOver text held absent l)
unlisted_over l left held list of = record {
  bytes = of.bytes;
  moved = of.moved;
  told = λ rest e. let o = of.told rest e in record { passes = o.passes; part = record { grown = o.part.grown; listed = prefix_absent (list_of (of.bytes ++ rest)) } };
}

pub unlisted_fails : (left held list : Change) (e : MendError) → (list.Failed → ⊥) → Fails left held list e → Fails left held absent e
unlisted_fails left held list errors.Read never f = (f.0, unlisted_part left held list f.1)
unlisted_fails left held list errors.Write never f = (failed_here never f.0, unlisted_part left held list f.1)
unlisted_fails left held list errors.TooLong never f = unlisted_over too_long left held list f
unlisted_fails left held list errors.PictureTooLarge never f = unlisted_over too_large left held list f
unlisted_fails left held list errors.Memory never f = unlisted_part left held list f
