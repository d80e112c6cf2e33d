-- Of a stream that the verifier calls lawful, with delays that are all exact, nothing is remarked of the arrival of its pictures' bits.
use Rattle.std.proofs.Common.{◌≡◌, ℕ, ◌+◌, ◌≤◌, Bool, true, false, List, [], ◌∷◌, ◌++◌, length, Option, Some, None, inl, inr, refl, sym, ap, subst, ◌∙◌, le_trans}
use Rattle.std.specs.List.{AllByRecursion}
use Rattle.m2v_model.specs.m2v_macroblock.m2v_head.declared.sequence.SequenceInfo.{SequenceInfo}
use Rattle.m2v_model.specs.m2v_macroblock.m2v_head.declared.sequence.SequenceExtension.{SequenceExtension}
use Rattle.m2v_model.specs.declared.state.Sequence.{Sequence}
use Rattle.m2v_model.specs.declared.notes.PictureNote.{PictureNote}
use Rattle.m2v_model.specs.States.{first_or}
use Rattle.m2v_model.specs.Streams.{Sofar}
use Rattle.m2v_model.specs.Pictures.{Picture, Events, pictures_in}
use Rattle.m2v_model.specs.Pieces.{pieces, zeros_last}
use Rattle.m2v_model.specs.PieceNotes.{first_note, notes_of}
use Rattle.m2v_model.specs.Decoding.{Stream, events, low_delay_of}
use Rattle.m2v_model.specs.ByPieces.{Between, at_start}
use Rattle.m2v_model.specs.Lawful.{Numbered, numbered, all_numbered, breaches_of, rate_of}
use Rattle.m2v_model.specs.Buffering.{account_from, account_by, account_in, figures_of, figures_in, unsafe_in}
use Rattle.m2v_model.proofs.Unique.{exactly_one}
use Rattle.m2v_model.proofs.VerdictLaws.{judged_by_all}
use Rattle.m2v_audit.specs.m2v_check.declared.coded.CodedPicture.{CodedPicture}
use Rattle.m2v_audit.specs.m2v_check.declared.verdict.Figures.{Figures}
use Rattle.m2v_audit.specs.m2v_check.Meaning.{IsLawful}
use Rattle.m2v_audit.specs.m2v_strict.declared.preceding.Arrival.{Arrival}
use Rattle.m2v_audit.specs.m2v_strict.ArrivalRules.{arrival_rule}
use Rattle.m2v_audit.specs.declared.asked.Asked.{Asked}
use Rattle.m2v_audit.specs.declared.auditing.Auditing.{Auditing}
use Rattle.m2v_audit.specs.declared.headers.PieceHeader.{PieceHeader}
use Rattle.m2v_audit.specs.declared.headers.PieceHeader.TheVariants as headers
use Rattle.m2v_audit.specs.Account.{Account}
use Rattle.m2v_audit.specs.Auditing.{nothing, longer, begun, with_headers, coded, counted, with_told, with_note, with_coded, pictured, fronted}
use Rattle.m2v_audit.specs.Front.{front_of}
use Rattle.m2v_audit.specs.Opening.{has_account}
use Rattle.m2v_audit.specs.Times.{Times, opened, time_of, after}
use Rattle.m2v_audit.proofs.Beginning.{can_begin}
use Rattle.m2v_audit.proofs.m2v_check.Telling.{first_in, last_in, AreHeaded}
use Rattle.m2v_audit.proofs.m2v_check.Onward.{none_or_one}
use Rattle.m2v_law_audit.specs.Found.{all_along}
use Rattle.m2v_law_audit.specs.Sequences.{first_byte}
use Rattle.m2v_law_audit.specs.Accounts.{coded_at, numbered_in, IsOnceAmong}
use Rattle.m2v_law_audit.proofs.PartsKept.{Untouched, headers_keep, piece_leaves, placing}
use Rattle.m2v_law_audit.proofs.AccountDues.{EndsSo, few_numbered, all_end}
use Rattle.m2v_law_audit.proofs.AccountReading.{Turn, Turns, in_pieces, begun_at, behind_piece, one_piece, first_header, first_begun, few_pictures}
use Rattle.m2v_law_audit.proofs.EventsFront.{Fronts}
use Rattle.m2v_law_audit.proofs.EventsPieces.{BeginWith, text_begins}
use Rattle.m2v_law_audit.proofs.RemovalEvents.{note_at, rest_one, none_left, first_so}
use Rattle.m2v_law_audit.proofs.RemovalPieces.{Stands, noted_picture, fronted_stands, picture_moves}
use Rattle.m2v_law_audit.proofs.RemovalTurns.{later_begun}
use Rattle.m2v_law_audit.proofs.VerdictRules.{keeps_where}
use Rattle.m2v_law_audit.proofs.VerdictLaws.{finds_nothing_where_lawful}
use Rattle.m2v_law_audit.proofs.CleanArrivals.{arrivals_by, piece_arrivals, all_arrivals}
use Rattle.m2v_law_audit.proofs.ArrivalAccounts.{arrived_at, AllArrive, AllFit, all_fit, arrive_behind_first}

-- ---- the picture before stays through headers, and through a piece without a picture

with_all : (a : Auditing) (ss : List (SequenceInfo × SequenceExtension)) (k : ℕ) (hs : List PieceHeader)
    → (with_headers a ss k hs).arrival ≡ a.arrival
with_all = headers_keep (λ (x : Auditing). x.arrival) (λ a bit s. refl) (λ a bit g. refl)

-- behind a piece is kept what its picture leaves
behind_pictured : (a : Auditing) (at : ℕ) (p : List ℕ) (es : Events) →
    let c = fronted (longer (length p) a) at p (notes_of at p es) in
    (behind_piece a at p es).arrival ≡ (pictured c at (length p) (zeros_last p) (notes_of at p es).picture).arrival
behind_pictured a at p es = piece_leaves (λ (x : Auditing). x.arrival) (λ a r d last x. refl) a at p (notes_of at p es)

-- ---- a picture

no_arrival : (rate : ℕ) (p : CodedPicture) → arrival_rule rate None p ≡ []
unfolding arrival_rule
no_arrival rate p = refl

-- the rule looks at what is noted of it alone
same_rule : (rate : ℕ) (d : Option Arrival) (k m : ℕ) (s r : Sequence) (g h : Bool) (n : PictureNote) →
    let p : CodedPicture = record { number = k; sequence = s; first_in_group = g; note = n } in
    let q : CodedPicture = record { number = m; sequence = r; first_in_group = h; note = n } in
    arrival_rule rate d p ≡ arrival_rule rate d q
unfolding arrival_rule
same_rule rate None k m s r g h n = refl
same_rule rate (Some d) k m s r g h n = refl

-- what is remarked of it, and what is kept of it
record IsRemarked (a : Auditing) (at : ℕ) (p : List ℕ) (own : Events) (n : Numbered) (f : Sequence) (t : Times) (d : Option Arrival) : Type 0 where
  here : piece_arrivals a at p (notes_of at p own) ≡ arrival_rule (rate_of f) d (coded_at at p n)
  behind : (behind_piece a at p own).arrival ≡ Some (arrived_at t at p n)

coded_leaves : (c : Auditing) (s : Sequence) (n : PictureNote) (place bytes zeros : ℕ) (t : Times) → c.times ≡ t
    → (with_coded c (coded c s n) place bytes zeros).arrival
    ≡ Some (record { code_end = n.code_end; units = time_of t s n; delay = n.info.vbv_delay })
coded_leaves c s n place bytes zeros t e =
    let p = coded c s n in
    ap (λ (u : Times). Some (record { code_end = n.code_end; units = time_of u s n; delay = n.info.vbv_delay }))
    (ap (λ (x : Untouched). x.3) (placing (with_told (counted c p) p bytes zeros) p).0 ∙ e)

remarked : (a : Auditing) (at : ℕ) (p : List ℕ) (own : Events) (n : Numbered) (f : Sequence) (o : Option Sequence) (k : ℕ) (t : Times)
    (x : Option Account) (d : Option Arrival)
    → Fronts (front_of at p) own → Stands (begun_at a at p own) (Some f) o k t x → (begun_at a at p own).arrival ≡ d
    → pictures_in own ≡ n.picture ∷ [] → last_in o own ≡ Some n.sequence → IsRemarked a at p own n f t d
remarked a at p own n f o k t x d fronts starts kept one headed =
    let notes = notes_of at p own in
    let b = begun_at a at p own in
    let c = fronted (longer (length p) a) at p notes in
    let g = fronted_stands a at p own (Some f) o k t x fronts starts in
    let note = note_at at p n in
    let picture : notes.picture ≡ Some note = noted_picture at p own ∙ ap (first_note _) one in
    let last : c.sequence ≡ Some n.sequence = g.last_is ∙ headed in
    let before : c.arrival ≡ d = with_all b notes.sequences 0 (front_of at p) ∙ kept in
    let first : c.first ≡ Some f = g.first_is in
    record {
      here =
          (λ i. arrivals_by c (last i) (picture i))
          ∙ (λ i. arrival_rule (rate_of (first_or (first i) n.sequence)) (before i) (coded c n.sequence note))
          ∙ same_rule (rate_of f) d _ n.number n.sequence n.sequence _ n.first_in_group note;
      behind =
          behind_pictured a at p own
          ∙ (λ i. (with_note c (last i) (picture i) at (length p) (zeros_last p)).arrival)
          ∙ coded_leaves c n.sequence note at (length p) (zeros_last p) t g.times_are;
    }

-- a piece without a picture
none_here : (a : Auditing) (at : ℕ) (p : List ℕ) (own : Events) → pictures_in own ≡ [] → piece_arrivals a at p (notes_of at p own) ≡ []
none_here a at p own none =
    let c = fronted (longer (length p) a) at p (notes_of at p own) in
    ap (arrivals_by c c.sequence) (noted_picture at p own ∙ ap (first_note _) none)

none_later : (a : Auditing) (b : Between) (at : ℕ) (ps : List (List ℕ)) → ps ≡ [] → all_arrivals a b at ps ≡ []
unfolding all_along
none_later a b at ps e = ap (all_arrivals a b at) e

-- a piece without a picture, behind which nothing comes
quiet_piece : (a : Auditing) (b : Between) (at : ℕ) (p : List ℕ) (ps : List (List ℕ)) (es : Events) (u : Turn b p ps es)
    → Turns u.next ps u.rest → pictures_in u.own ≡ [] → all_arrivals a b at (p ∷ ps) ≡ []
quiet_piece a b at p ps es u turns none =
    let left = none_left (length (pictures_in u.own)) u.next ps u.rest (ap length none) u.one turns in
    let here = none_here a at p u.own none in
    let rest = none_later (behind_piece a at p u.own) u.next (at + length p) ps left.0 in
    one_piece piece_arrivals (λ z. []) a b at p ps es u ∙ (λ i. here i ++ rest i)

-- ---- pieces behind a picture

arrivals_from : (ps : List (List ℕ)) (b : Between) (es : Events) (a : Auditing) (at : ℕ) (f : Sequence) (o : Option Sequence) (k : ℕ)
    (t : Times) (x : Option Account) (d : Arrival) (group : ℕ) (first_in_group : Bool) (frames : ℕ)
    → Turns b ps es → Stands a (Some f) o k t x → a.arrival ≡ Some d → b.state.sequence ≡ o
    → AllArrive (rate_of f) d t at ps (numbered o group first_in_group k frames es) → all_arrivals a b at ps ≡ []
unfolding all_along
arrivals_from [] b es a at f o k t x d group first_in_group frames turns h kept so all = refl
arrivals_from (p ∷ ps) b es a at f o k t x d group first_in_group frames turns h kept so all =
    let u = turns.0 in
    let end = at + length p in
    let c = behind_piece a at p u.own in
    let starts = later_begun a at p u.own f o k t x h in
    let begun_kept : (begun_at a at p u.own).arrival ≡ Some d =
    ap (λ (z : Option Sequence). (begun z (longer (length p) a) at (notes_of at p u.own)).arrival) h.first_is ∙ kept in
    let stays : u.next.state.sequence ≡ last_in o u.own = u.sequence ∙ ap (λ (z : Option Sequence). last_in z u.own) so in
    elim (none_or_one u.own u.last) [
      | inl none ↦ quiet_piece a b at p ps es u turns.1 none
      | inr one ↦
          let r = rest_one o group first_in_group k frames u.own u.rest one.0 u.last (subst (λ (z : Option Sequence). AreHeaded z u.own) so u.headed) one.1 in
          let n = r.first in
          let own : pictures_in u.own ≡ n.picture ∷ [] = one.1 ∙ ap (λ (q : Picture). q ∷ []) r.same in
          let m = picture_moves a at p u.own n (Some f) o k t x (u.fronts at) starts own r.headed r.number_is in
          let s = remarked a at p u.own n f o k t x (Some d) (u.fronts at) starts begun_kept own r.headed in
          let both = subst (AllArrive (rate_of f) d t at (p ∷ ps)) (ap (numbered o group first_in_group k frames) u.are ∙ r.is) all in
          let here = s.here ∙ both.0 in
          let rest =
          arrivals_from ps u.next u.rest c end f (last_in o u.own) (k + 1) (after t n.sequence (note_at at p n)) _ (arrived_at t at p n)
          r.group r.first_in_group r.frames turns.1 m.behind s.behind stays both.1 in
          one_piece piece_arrivals (λ z. []) a b at p ps es u ∙ (λ i. here i ++ rest i)
    ]

-- ---- the first piece

-- the bits of the pictures behind the first one arrive in time
abbrev ArriveBehind : ℕ → List ℕ → List (List ℕ) → Sequence → Numbered → List Numbered → Type 0
ArriveBehind at p ps s n ns =
    let t = opened s.extension.low_delay s.info.frame_rate_code in
    let c = coded_at at p n in
    AllArrive (rate_of s) (arrived_at t at p n) (after t c.sequence c.note) (at + length p) ps ns

abbrev ArriveIn : ℕ → List (List ℕ) → Option Sequence → List Numbered → Type 0
ArriveIn at [] o all = Unit {0}
ArriveIn at (p ∷ ps) o all = (s : Sequence) (n : Numbered) (ns : List Numbered) → o ≡ Some s → all ≡ n ∷ ns → ArriveBehind at p ps s n ns

arrivals_all : (ps : List (List ℕ)) (es : Events) (asked : Asked) (number start at : ℕ) → BeginWith 0xB3 ps → Turns at_start ps es
    → ArriveIn at ps (first_in None es) (all_numbered es) → all_arrivals (nothing number asked start) at_start at ps ≡ []
unfolding all_along
arrivals_all [] es asked number start at begins turns all = refl
arrivals_all (p ∷ ps) es asked number start at begins turns all =
    let a : Auditing = nothing number asked start in
    let u = turns.0 in
    let end = at + length p in
    let c = behind_piece a at p u.own in
    elim (none_or_one u.own u.last) [
      | inl none ↦ quiet_piece a at_start at p ps es u turns.1 none
      | inr one ↦
          let g = first_so u.own u.rest es one.0 (first_header at p u.own begins (u.fronts at)) u.are u.last u.headed one.1 in
          let r = g.one in
          let f : Sequence = (g.has).header in
          let t : Times = opened f.extension.low_delay f.info.frame_rate_code in
          let n : Numbered = r.first in
          let is = first_begun a at p u.own refl g.has in
          let starts : Stands (begun_at a at p u.own) (Some f) None 0 t None =
          subst (λ (z : Auditing). Stands z (Some f) None 0 t None) (sym is)
          (record { first_is = refl; last_is = refl; number_is = refl; times_are = refl; account_is = refl }) in
          let own : pictures_in u.own ≡ n.picture ∷ [] = one.1 ∙ ap (λ (q : Picture). q ∷ []) r.same in
          let m = picture_moves a at p u.own n (Some f) None 0 t None (u.fronts at) starts own r.headed r.number_is in
          let s = remarked a at p u.own n f None 0 t None None (u.fronts at) starts (ap (λ (z : Auditing). z.arrival) is) own r.headed in
          let here = s.here ∙ no_arrival (rate_of f) (coded_at at p n) in
          let rest =
          arrivals_from ps u.next u.rest c end f (last_in None u.own) 1 (after t n.sequence (note_at at p n)) _ (arrived_at t at p n)
          r.group r.first_in_group r.frames turns.1 m.behind s.behind u.sequence (all f n _ g.first r.is) in
          one_piece piece_arrivals (λ z. []) a at_start at p ps es u ∙ (λ i. here i ++ rest i)
    ]

-- ---- a stream

-- with those that there are
arrive_by : (at : ℕ) (o : Option Sequence) (ps : List (List ℕ)) (all : List Numbered) → ((s : Sequence) → o ≡ Some s → has_account s ≡ true)
    → AllByRecursion IsOnceAmong all → AllByRecursion EndsSo all → length all ≤ length ps → AllFit ps all →
    let account = account_by (low_delay_of o) o ps all in
    unsafe_in account ≡ [] → (figures_of ps all account).delays ≡ 0 → ArriveIn at ps o all
unfolding figures_of
arrive_by at o [] all has once ends le fit safe off = tt
arrive_by at None (p ∷ ps) all has once ends le fit safe off = λ s n ns e g. absurd cc
arrive_by at (Some q) (p ∷ ps) [] has once ends le fit safe off = λ s n ns e g. absurd cc
arrive_by at (Some q) (p ∷ ps) (m ∷ ms) has once ends le fit safe off =
    λ s n ns e g.
    let a = account_from q.extension.low_delay q m (p ∷ ps) (m ∷ ms) in
    let is : q ≡ s = cc in
    let head : m ≡ n = cc in
    let tail : ms ≡ ns = cc in
    subst (λ (x : Sequence × Numbered × List Numbered). ArriveBehind at p ps x.0 x.1 x.2) (λ i. (is i, head i, tail i))
    (arrive_behind_first at q p ps m ms (can_begin q (has q refl)).rate once ends le fit ((judged_by_all a).0 safe) off)

-- A stream that is lawful, with no delay behind the first one that isn't the exact one, breaks rule 29 nowhere.
pub arrivals_held : (text : List ℕ) (tree : Sofar) → Stream text tree → (f : Figures) → IsLawful text f → (figures_in text tree).delays ≡ 0
    → (asked : Asked) (number start : ℕ)
    → all_arrivals (nothing number asked start) at_start (first_byte start text) (pieces text) ≡ []
arrivals_held text tree stream f is exact asked number start =
    let r = in_pieces text tree stream in
    let at = first_byte start text in
    let es = events tree in
    let one = λ (t : Sofar) (s : Stream text t). (exactly_one text).one_tree t tree s stream in
    let lawful : breaches_of tree ≡ [] = subst (λ (t : Sofar). breaches_of t ≡ []) (one is.lawful.tree is.lawful.stream) is.lawful.lawful in
    let safe : unsafe_in (account_in text tree) ≡ [] =
    subst (λ (t : Sofar). unsafe_in (account_in text t) ≡ []) (one is.safe.tree is.safe.stream) is.safe.safe in
    let steady = ((finds_nothing_where_lawful text tree stream asked number start).1 (f, is)).1 in
    let keeps = keeps_where (low_delay_of tree.state.first) es steady lawful in
    let numbered = few_numbered None 0 false 0 0 es in
    let few = le_trans numbered (few_pictures at_start (pieces text) es r.turns) in
    let all : ArriveIn at (pieces text) tree.state.first (numbered_in tree) =
    arrive_by at tree.state.first (pieces text) (numbered_in tree) (λ s e. keeps.account s (sym r.first ∙ e)) keeps.once
    (all_end false None 0 false 0 0 es r.alternates) few (all_fit (pieces text) at_start es (numbered_in tree) r.turns numbered) safe exact in
    arrivals_all (pieces text) es asked number start at (text_begins text) r.turns
    (subst (λ (o : Option Sequence). ArriveIn at (pieces text) o (numbered_in tree)) r.first all)
