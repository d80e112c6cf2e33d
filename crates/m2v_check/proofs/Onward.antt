-- What the judge keeps of the pieces so far, and of one piece more.
use Rattle.std.proofs.Common.{◌≡◌, ℕ, ◌+◌, ◌-◌, ◌*◌, ◌<◌, ◌≤◌, Bool, true, false, List, [], ◌∷◌, ◌++◌, length, map, Option, Some, None, ◌⊎◌, refl, sym, ap, subst, ◌∙◌, arith, inl, inr}
use Rattle.std.specs.Prelude.{sum, is_some, IsSome, ◌||◌, not}
use Rattle.std.proofs.lemmas.List.{map-append}
use Rattle.std.proofs.lemmas.List.Sums.{sum_by_push}
use Rattle.m2v_vbv.specs.Annex.{Start}
use Rattle.m2v_model.specs.declared.state.Sequence.{Sequence}
use Rattle.m2v_model.specs.declared.notes.Notes.{Notes}
use Rattle.m2v_model.specs.declared.notes.PictureNote.{PictureNote}
use Rattle.m2v_model.specs.States.{is_frame, first_or}
use Rattle.m2v_model.specs.Pictures.{Picture, Events, sequence_header, group_header, coded_picture, pictures_in}
use Rattle.m2v_model.specs.PieceNotes.{PieceNotes, noted, notes_of, note_of, first_note}
use Rattle.m2v_model.specs.Lawful.{Numbered, numbered, all_numbered, sequence_breaches, rate_of, buffer_of}
use Rattle.m2v_model.specs.Buffering.{bits_of_piece, code_bits, first_code}
use Rattle.m2v_check.specs.declared.rules.Rules.{Rules}
use Rattle.m2v_check.specs.declared.buffer.Buffer.{Buffer}
use Rattle.m2v_check.specs.declared.coded.CodedPicture.{CodedPicture}
use Rattle.m2v_check.specs.declared.judge.Judge.{Judge}
use Rattle.m2v_check.specs.declared.course.Next.{Next}
use Rattle.m2v_check.specs.declared.course.Course.{Course}
use Rattle.m2v_check.specs.declared.times.Times.{Times}
use Rattle.m2v_check.specs.Breaking.{found, numbered_of}
use Rattle.m2v_check.specs.Holding.{time_behind, repeats_behind}
use Rattle.m2v_check.specs.Running.{no_rules, coded_next}
use Rattle.m2v_check.specs.Laws.{rules_after, Alternates}
use Rattle.m2v_check.specs.Judging.{judged_rules, with_note, times_of, GoesOn, Begins, HasMore, HaveMore, BeginsBy, Accounts, AccountsBy, AccountsNote}
use Rattle.m2v_check.proofs.Telling.{first_in, last_in, AreHeaded, first-append}
use Rattle.m2v_check.proofs.Ordered.{PictureLast}
use Rattle.m2v_check.proofs.Accounted.{HasRun, runs_goes, runs_more, runs_begins}
use Rattle.m2v_check.proofs.Listed.{times_behind, next_by, all_bits, nexts, bits_push, nexts_push, nexts_more, times_push}
use Rattle.m2v_check.proofs.Ruling.{Headed, headers_leave, piece_rules, rules-append, rules_first, rules_sequence, rules_pictures, all_none, all_one}

-- the start of the account of pieces
abbrev pub start_by : Sequence → List (List ℕ) → Numbered → Start
start_by s ps n = record { k = rate_of s; buffer_bits = 16384 * buffer_of s; s = first_code ps; delay = n.picture.info.vbv_delay }

-- the account of pieces and pictures, up to the last picture
pub record Runs (s : Sequence) (ps : List (List ℕ)) (n : Numbered) (ns : List Numbered) (b : Buffer) : Type 0 where
  pub before : List Next
  pub are : nexts (times_of s) ps ns ≡ before ++ b.course.next ∷ []
  pub run : HasRun (start_by s ps n) before b
  pub times : b.times ≡ times_behind (times_of s) ns

-- the account by the first sequence header: there is none before the first picture, nor where the header breaks a rule
abbrev pub AccountSo : Option Sequence → List (List ℕ) → List Numbered → Option Buffer → Type 0
AccountSo first ps [] b = b ≡ None
AccountSo None ps (n ∷ ns) b = ⊥
AccountSo (Some s) ps (n ∷ ns) None = IsSome (found (sequence_breaches (s ∷ [])))
AccountSo (Some s) ps (n ∷ ns) (Some b) = Runs s ps n (n ∷ ns) b

-- ---- without a picture

pub first_stays : (s : Sequence) (es : Events) → first_in (Some s) es ≡ Some s
first_stays s [] = refl
first_stays s (sequence_header t ∷ es) = first_stays s es
first_stays s (group_header g ∷ es) = first_stays s es
first_stays s (coded_picture p ∷ es) = first_stays s es

code_push : (ps : List (List ℕ)) (p : List ℕ) → 0 < length ps → first_code (ps ++ p ∷ []) ≡ first_code ps
code_push [] p some = absurd (omega arith)
code_push (q ∷ ps) p some = refl

start_push : (s : Sequence) (ps : List (List ℕ)) (p : List ℕ) (n : Numbered) → 0 < length ps → start_by s (ps ++ p ∷ []) n ≡ start_by s ps n
start_push s ps p n some = ap (λ (c : ℕ). record { k = rate_of s; buffer_bits = 16384 * buffer_of s; s = c; delay = n.picture.info.vbv_delay }) (code_push ps p some)

more_runs : (s : Sequence) (ps : List (List ℕ)) (p : List ℕ) (n : Numbered) (ns : List Numbered) (b d : Buffer) (bits : ℕ) → bits ≡ bits_of_piece p → length (n ∷ ns) ≤ length ps → Runs s ps n (n ∷ ns) b → HasMore b bits d → Runs s (ps ++ p ∷ []) n (n ∷ ns) d
more_runs s ps p n ns b d bits e le r m =
    let next : record b.course.next { bits = b.course.next.bits + bits_of_piece p } ≡ d.course.next =
    (λ i. record b.course.next { bits = b.course.next.bits + sym e i }) ∙ sym (ap (λ (c : Course). c.next) m.course) in
    record {
      before = r.before;
      are = nexts_more (times_of s) ps (n ∷ ns) p r.before b.course.next le r.are ∙ ap (λ (x : Next). r.before ++ x ∷ []) next;
      run = subst (λ (t : Start). HasRun t r.before d) (sym (start_push s ps p n (omega (arith, le)))) (runs_more (start_by s ps n) r.before b d bits r.run m);
      times = m.times ∙ r.times;
    }

more_account : (first : Option Sequence) (fs : Events) (ps : List (List ℕ)) (p : List ℕ) (ns : List Numbered) (b d : Option Buffer) (bits : ℕ) → bits ≡ bits_of_piece p → length ns ≤ length ps
    → AccountSo first ps ns b → HaveMore b bits d → AccountSo (first_in first fs) (ps ++ p ∷ []) ns d
more_account first fs ps p [] None d bits e le a h = h
more_account first fs ps p [] (Some b) d bits e le a h = absurd cc
more_account None fs ps p (n ∷ ns) b d bits e le a h = absurd a
more_account (Some s) fs ps p (n ∷ ns) None d bits e le a h = subst (λ (o : Option Sequence). AccountSo o (ps ++ p ∷ []) (n ∷ ns) d) (sym (first_stays s fs)) (subst (AccountSo (Some s) (ps ++ p ∷ []) (n ∷ ns)) (sym h) a)
more_account (Some s) fs ps p (n ∷ ns) (Some b) None bits e le a h = absurd h
more_account (Some s) fs ps p (n ∷ ns) (Some b) (Some d) bits e le a h =
    subst (λ (o : Option Sequence). AccountSo o (ps ++ p ∷ []) (n ∷ ns) (Some d)) (sym (first_stays s fs)) (more_runs s ps p n ns b d bits e le a h)

-- ---- with a picture

same_some : (a b : Option Sequence) (es : Events) → is_some a ≡ is_some b → is_some (first_in a es) ≡ is_some (last_in b es)
same_some a b [] e = e
same_some a b (sequence_header s ∷ es) e = same_some (Some (first_or a s)) (Some s) es refl
same_some a b (group_header g ∷ es) e = same_some a b es e
same_some a b (coded_picture p ∷ es) e = same_some a b es e

some_is : (o : Option Sequence) → is_some o ≡ true → (s : Sequence) × (o ≡ Some s)
some_is None e = absurd cc
some_is (Some s) e = (s, refl)

-- what the judge sees of a picture is what counts of it
record SamePicture (c : CodedPicture) (m : Numbered) : Type 0 where
  units : (t : Times) → time_behind t (numbered_of c) ≡ time_behind t m
  repeats : (t : Times) → repeats_behind t (numbered_of c) ≡ repeats_behind t m
  delay : c.note.info.vbv_delay ≡ m.picture.info.vbv_delay

abbrev with_end : Numbered → Bool → Numbered
with_end n ends = record n { picture = record n.picture { ends_frame = ends } }

same_picture : (r : Rules) (m : Numbered) (q : Picture) (k : ℕ) → m.picture ≡ q → q.ends_frame ≡ (is_frame q.extension || not q.begins_frame) → SamePicture (coded_next r m.sequence (note_of k q)) m
same_picture r m q k e f =
    let c = coded_next r m.sequence (note_of k q) in
    record {
      units = λ t. ap (λ (b : Bool). time_behind t (with_end (numbered_of c) b)) (sym f) ∙ sym (ap (λ (p : Picture). time_behind t (record m { picture = p })) e);
      repeats = λ t. ap (λ (b : Bool). repeats_behind t (with_end (numbered_of c) b)) (sym f) ∙ sym (ap (λ (p : Picture). repeats_behind t (record m { picture = p })) e);
      delay = sym (ap (λ (p : Picture). p.info.vbv_delay) e);
    }

goes_runs : (s : Sequence) (ps : List (List ℕ)) (p : List ℕ) (n : Numbered) (ns : List Numbered) (m : Numbered) (c : CodedPicture) (b d : Buffer) (bits code : ℕ) → bits ≡ bits_of_piece p → code ≡ code_bits p → SamePicture c m
    → length (n ∷ ns) ≡ length ps → Runs s ps n (n ∷ ns) b → GoesOn b c bits code d → Runs s (ps ++ p ∷ []) n ((n ∷ ns) ++ m ∷ []) d
goes_runs s ps p n ns m c b d bits code e f same le r g =
    let all = times_behind (times_of s) (n ∷ ns) in
    let units = ap (λ (t : Times). time_behind t (numbered_of c)) r.times ∙ same.units all in
    let delay = same.delay in
    let next : next_by all m (bits_of_piece p) (code_bits p) ≡ d.course.next =
    (λ i. record { bits = sym e i; code = sym f i; units = sym units i; delay = sym delay i }) ∙ sym (ap (λ (x : Course). x.next) g.course) in
    record {
      before = r.before ++ b.course.next ∷ [];
      are = nexts_push (times_of s) ps (n ∷ ns) p m le ∙ (λ i. r.are i ++ next i ∷ []);
      run = subst (λ (t : Start). HasRun t (r.before ++ b.course.next ∷ []) d) (sym (start_push s ps p n (omega (arith, le)))) (runs_goes (start_by s ps n) r.before b d c bits code r.run g);
      times = g.times ∙ ap (λ (t : Times). record t { repeats = repeats_behind t (numbered_of c) }) r.times ∙ ap (λ (x : Bool). record all { repeats = x }) (same.repeats all) ∙ sym (times_push (times_of s) (n ∷ ns) m);
    }

bits_first : (p : List ℕ) → all_bits (p ∷ []) ≡ bits_of_piece p
bits_first p = bits_push [] p ∙ omega arith

first_runs : (s : Sequence) (p : List ℕ) (m : Numbered) (c : CodedPicture) (d : Buffer) (bits code : ℕ) → bits ≡ bits_of_piece p → code ≡ code_bits p → SamePicture c m → Begins s c bits code d → Runs s (p ∷ []) m (m ∷ []) d
first_runs s p m c d bits code e f same g =
    let t = times_of s in
    let units = same.units t in
    let delay = same.delay in
    let next : next_by t m (all_bits (p ∷ [])) (code_bits p) ≡ d.course.next =
    (λ i. record { bits = (bits_first p ∙ sym e) i; code = sym f i; units = sym units i; delay = sym delay i }) ∙ sym (ap (λ (x : Course). x.next) g.course) in
    record {
      before = [];
      are = ap (λ (x : Next). x ∷ []) next;
      run = subst (λ (x : Start). HasRun x [] d) (λ i. record { k = rate_of s; buffer_bits = 16384 * buffer_of s; s = f i; delay = delay i }) (runs_begins s c bits code d g);
      times = g.times ∙ ap (λ (x : Bool). record t { repeats = x }) (same.repeats t);
    }

begins_account : (s : Sequence) (p : List ℕ) (m : Numbered) (c : CodedPicture) (d : Option Buffer) (bits code : ℕ) → bits ≡ bits_of_piece p → code ≡ code_bits p → SamePicture c m → BeginsBy (Some s) c bits code d → AccountSo (Some s) (p ∷ []) (m ∷ []) d
begins_account s p m c None bits code e f same h = h
begins_account s p m c (Some d) bits code e f same h = first_runs s p m c d bits code e f same h.1

picture_account : (first : Option Sequence) (s : Sequence) (fs : Events) (ps : List (List ℕ)) (p : List ℕ) (ns : List Numbered) (m : Numbered) (c : CodedPicture) (b d : Option Buffer) (bits code : ℕ) → first_in first fs ≡ Some s
    → bits ≡ bits_of_piece p → code ≡ code_bits p → SamePicture c m → length ns ≡ length ps → c.number ≡ length ns → AccountSo first ps ns b → Accounts (Some s) b c bits code d → AccountSo (Some s) (ps ++ p ∷ []) (ns ++ m ∷ []) d
picture_account first s fs [] p [] m c None d bits code i e f same le number a h = begins_account s p m c d bits code e f same (h.0 number)
picture_account first s fs [] p [] m c (Some b) d bits code i e f same le number a h = absurd cc
picture_account first s fs (q ∷ ps) p [] m c b d bits code i e f same le number a h = absurd (omega (arith, le))
picture_account None s fs ps p (n ∷ ns) m c b d bits code i e f same le number a h = absurd a
picture_account (Some t) s fs ps p (n ∷ ns) m c None d bits code i e f same le number a h =
    let is : t ≡ s = let all = sym (first_stays t fs) ∙ i in cc in
    let none = h.1 (omega (arith, number)) in
    subst (AccountSo (Some s) (ps ++ p ∷ []) ((n ∷ ns) ++ m ∷ [])) (sym none) (subst (λ (x : Sequence). IsSome (found (sequence_breaches (x ∷ [])))) is a)
picture_account (Some t) s fs ps p (n ∷ ns) m c (Some b) None bits code i e f same le number a h = absurd h
picture_account (Some t) s fs ps p (n ∷ ns) m c (Some b) (Some d) bits code i e f same le number a h =
    let is : t ≡ s = let all = sym (first_stays t fs) ∙ i in cc in
    goes_runs s ps p n ns m c b d bits code e f same le (subst (λ (x : Sequence). Runs x ps n (n ∷ ns) b) is a) h

-- ---- one piece more

-- what the judge keeps of pieces that tell these events
pub record JudgeSo (ps : List (List ℕ)) (es : Events) (j : Judge) : Type 0 where
  pub rules : j.rules ≡ rules_after no_rules es
  pub bytes : j.bytes ≡ sum (map length ps)
  pub account : AccountSo (first_in None es) ps (all_numbered es) j.buffer

pub judge_none : (j : Judge) → j.rules ≡ no_rules → j.buffer ≡ None → j.bytes ≡ 0 → JudgeSo [] [] j
unfolding rules_after numbered
judge_none j rules none bytes = record { rules = rules; bytes = bytes; account = none }

pub none_or_one : (fs : Events) → PictureLast fs → (pictures_in fs ≡ []) ⊎ ((q : Picture) × (pictures_in fs ≡ q ∷ []))
none_or_one [] h = inl refl
none_or_one (sequence_header s ∷ fs) h = none_or_one fs h
none_or_one (group_header g ∷ fs) h = none_or_one fs h
none_or_one (coded_picture p ∷ fs) h = inr (p, ap (λ (l : Events). p ∷ pictures_in l) h)

pub record Onward (place : ℕ) (p : List ℕ) (len : ℕ) (fs : Events) (notes : Notes) (j k : Judge) : Type 0 where
  pub length_is : len ≡ length p
  pub notes_are : noted notes ≡ notes_of place p fs
  pub rules : k.rules ≡ with_note (judged_rules j.rules notes) notes.picture
  pub bytes : k.bytes ≡ j.bytes + len
  pub account : AccountsNote (judged_rules j.rules notes) j.buffer notes.picture place len k.buffer

noted_as : (place : ℕ) (p : List ℕ) (fs : Events) (notes : Notes) → noted notes ≡ notes_of place p fs → notes.picture ≡ first_note (8 * place + code_bits p) (pictures_in fs)
unfolding notes_of
noted_as place p fs notes e = ap (λ (n : PieceNotes). n.picture) e

module _ (ps : List (List ℕ)) (es : Events) (place : ℕ) (p : List ℕ) (len : ℕ) (fs : Events) (notes : Notes) (j k : Judge) (so : JudgeSo ps es j) (on : Onward place p len fs notes j k) where
  abbrev r : Rules
  r = judged_rules j.rules notes

  headed : Headed j.rules fs r
  headed = headers_leave place p fs notes j.rules on.notes_are

  first_is : r.first ≡ first_in (first_in None es) fs
  first_is = headed.first ∙ ap (λ (o : Option Sequence). first_in o fs) (ap (λ (x : Rules). x.first) so.rules ∙ rules_first no_rules es)

  last_is : r.sequence ≡ last_in (last_in None es) fs
  last_is = headed.sequence ∙ ap (λ (o : Option Sequence). last_in o fs) (ap (λ (x : Rules). x.sequence) so.rules ∙ rules_sequence no_rules es)

  number_is : r.pictures ≡ length (all_numbered es)
  number_is = headed.pictures ∙ ap (λ (x : Rules). x.pictures) so.rules ∙ rules_pictures no_rules es None 0 false 0 0 refl ∙ omega arith

  bits_are : 8 * len ≡ bits_of_piece p
  bits_are = ap (λ (x : ℕ). 8 * x) on.length_is

  account_none : pictures_in fs ≡ [] → length (all_numbered es) ≡ length ps → AccountSo (first_in None (es ++ fs)) (ps ++ p ∷ []) (all_numbered (es ++ fs)) k.buffer
  account_none none even =
      let note : notes.picture ≡ None = noted_as place p fs notes on.notes_are ∙ ap (first_note (8 * place + code_bits p)) none in
      let more : HaveMore j.buffer (8 * len) k.buffer = subst (λ (o : Option PictureNote). AccountsNote r j.buffer o place len k.buffer) note on.account in
      subst (λ (o : Option Sequence). AccountSo o (ps ++ p ∷ []) (all_numbered (es ++ fs)) k.buffer) (sym (first-append None es fs))
      (subst (λ (l : List Numbered). AccountSo (first_in (first_in None es) fs) (ps ++ p ∷ []) l k.buffer) (sym (all_none es fs none))
      (more_account (first_in None es) fs ps p (all_numbered es) j.buffer k.buffer (8 * len) bits_are (omega (arith, even)) so.account more))

  account_one : (q : Picture) → pictures_in fs ≡ q ∷ [] → PictureLast fs → AreHeaded (last_in None es) fs → q.ends_frame ≡ (is_frame q.extension || not q.begins_frame) → length (all_numbered es) ≡ length ps
      → AccountSo (first_in None (es ++ fs)) (ps ++ p ∷ []) (all_numbered (es ++ fs)) k.buffer
  account_one q one last heads ends even =
      let end : ℕ = 8 * place + code_bits p in
      let note : notes.picture ≡ Some (note_of end q) = noted_as place p fs notes on.notes_are ∙ ap (first_note end) one in
      let x = all_one es fs q last heads one in
      let m = x.picture in
      let some : is_some (first_in (first_in None es) fs) ≡ true = same_some (first_in None es) (last_in None es) fs (same_some None None es refl) ∙ ap is_some x.sequence in
      let s = some_is (first_in (first_in None es) fs) some in
      let c = coded_next r m.sequence (note_of end q) in
      let by : AccountsBy r.sequence r j.buffer (note_of end q) place len k.buffer = subst (λ (o : Option PictureNote). AccountsNote r j.buffer o place len k.buffer) note on.account in
      let here : Accounts r.first j.buffer c (8 * len) (end - 8 * place) k.buffer = subst (λ (o : Option Sequence). AccountsBy o r j.buffer (note_of end q) place len k.buffer) (last_is ∙ x.sequence) by in
      let there : Accounts (Some s.0) j.buffer c (8 * len) (end - 8 * place) k.buffer = subst (λ (o : Option Sequence). Accounts o j.buffer c (8 * len) (end - 8 * place) k.buffer) (first_is ∙ s.1) here in
      subst (λ (o : Option Sequence). AccountSo o (ps ++ p ∷ []) (all_numbered (es ++ fs)) k.buffer) (sym (first-append None es fs ∙ s.1))
      (subst (λ (l : List Numbered). AccountSo (Some s.0) (ps ++ p ∷ []) l k.buffer) (sym x.is)
      (picture_account (first_in None es) s.0 fs ps p (all_numbered es) m c j.buffer k.buffer (8 * len) (end - 8 * place) s.1 bits_are (omega arith) (same_picture r m q end x.same ends) even number_is so.account there))

  pub judge_on : (w : Bool) → PictureLast fs → AreHeaded (last_in None es) fs → Alternates w (pictures_in fs) → length (all_numbered es) ≡ length ps → JudgeSo (ps ++ p ∷ []) (es ++ fs) k
  judge_on w last heads alternates even = record {
    rules = on.rules ∙ piece_rules place p fs notes j.rules on.notes_are last ∙ ap (λ (x : Rules). rules_after x fs) so.rules ∙ sym (rules-append no_rules es fs);
    bytes = on.bytes ∙ (λ i. so.bytes i + on.length_is i) ∙ sym (ap sum (map-append length ps (p ∷ [])) ∙ sum_by_push (λ (x : ℕ). x) (map length ps) (length p));
    account =
        elim (none_or_one fs last) [
          | inl none ↦ account_none none even
          | inr one ↦ account_one one.0 one.1 last heads (subst (Alternates w) one.1 alternates).0 even
        ];
  }
