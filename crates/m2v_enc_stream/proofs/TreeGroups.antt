-- Pictures one behind another, and groups one behind another.
use Rattle.std.proofs.Common.{◌≡◌, ℕ, zero, suc, ◌+◌, ◌<◌, ◌≤◌, ◌⊎◌, Bool, true, false, List, [], ◌∷◌, ◌++◌, length, Option, Some, None, inl, inr, refl, sym, ap, subst, ◌∙◌, arith, append_assoc}
use Rattle.std.specs.Prelude.{is_some}
use Rattle.std.proofs.lemmas.List.{append-nil}
use Rattle.m2v_plane.specs.Samples.{Samples}
use Rattle.m2v_set.specs.declared.settings.Settings.{Settings}
use Rattle.m2v_order.specs.Groups.{Group}
use Rattle.m2v_order.proofs.Queues.{true_false}
use Rattle.m2v_rate.specs.Plans.{Entries}
use Rattle.m2v_slice.specs.Headers.{begins_group}
use Rattle.m2v_slice.specs.Books.{Book, CodedPicture, rows, job_at, coded, ledger_behind}
use Rattle.m2v_slice.specs.Conditions.{IsBook}
use Rattle.m2v_slice.proofs.Firsts.{first_begins}
use Rattle.m2v_enc_stream.specs.Streams.{Progress, delay_at, picture_text, pictures_text, book_of, group_coded, groups_coded}
use Rattle.m2v_enc_stream.proofs.Stands.{group_text_is}
use Rattle.m2v_model.specs.declared.state.FirstField.{FirstField}
use Rattle.m2v_model.specs.declared.state.Open.{Open}
use Rattle.m2v_model.specs.declared.state.State.{State}
use Rattle.m2v_model.specs.Units.{Units}
use Rattle.m2v_model.specs.States.{at_first, is_complete, none_waits}
use Rattle.m2v_model.specs.Streams.{Part}
use Rattle.m2v_model.specs.Chains.{Chain, nothing}
use Rattle.m2v_model.proofs.Chains.{chain_then}
use Rattle.m2v_model.proofs.Units.{packs_none, packs_append}
use Rattle.m2v_enc_stream.specs.Trees.{sequence_by, pictures_parts, group_parts, groups_parts}
use Rattle.m2v_enc_stream.specs.States.{state_with, open_at, waiting_behind, anchors_behind}
use Rattle.m2v_enc_stream.proofs.Turns.{IsCounted, none_behind, anchors_end}
use Rattle.m2v_enc_stream.proofs.States.{state_before, state_at, references_at, complete_at, first_sequence}
use Rattle.m2v_enc_stream.proofs.Zeros.{Holds, holds_packs}
use Rattle.m2v_enc_stream.proofs.SliceUnits.{Spelled}
use Rattle.m2v_enc_stream.proofs.PictureChains.{picture_units_of, IsReady, ready_at, picture_read, picture_text_holds}

-- ---- pictures

-- the units of the first n pictures of a group that begins at a bit of the stream
unfoldable pub pictures_units : Book → List CodedPicture → Entries → Bool → ℕ → ℕ → Units
pictures_units b done l ends at zero = []
pictures_units b done l ends at (suc n) = pictures_units b done l ends at n ++ picture_units_of b l ends (at + length (pictures_text b done l ends at n)) n

-- the delays of a group's pictures fit their 16 bits
abbrev pub AreSmall : Book → List CodedPicture → Entries → Bool → ℕ → Type 0
AreSmall b done l ends at = (p : ℕ) → p < length b.pictures → delay_at l (job_at b p) p (at + length (pictures_text b done l ends at p)) < 65536

-- a state behind some pictures: the last of them is complete
pub record IsBehind (b : Book) (before n : ℕ) (st : State) : Type 0 where
  pub closed : Bool
  pub open_one : Option Open
  pub is : st ≡ state_before b closed before n open_one
  pub complete : is_complete (Some (sequence_by b.settings)) open_one ≡ true

-- pictures are read
pub record AreRead (b : Book) (before n : ℕ) (st : State) (parts : List Part) (units : Units) : Type 0 where
  pub end : State
  pub chain : Chain st parts units end
  pub ready : IsReady b before n end
  pub behind : 0 < n → IsBehind b before n end

pub pictures_read : (law : Spelled) (b : Book) → IsBook b → (done : List CodedPicture) (l : Entries) (ends : Bool) (before at n : ℕ) (st : State) → IsCounted b before → n ≤ length b.pictures
    → AreSmall b done l ends at → IsReady b before 0 st → AreRead b before n st (pictures_parts b done l ends at n) (pictures_units b done l ends at n)
unfolding pictures_parts pictures_units
pictures_read law b h done l ends before at zero st c le small ready = record { end = st; chain = nothing; ready = ready; behind = λ some. absurd (omega (arith, some)) }
pictures_read law b h done l ends before at (suc n) st c le small ready =
    let rec = pictures_read law b h done l ends before at n st c (omega (arith, le)) small ready in
    let here = at + length (pictures_text b done l ends at n) in
    let lt : n < length b.pictures = omega (arith, le) in
    let one = picture_read law b h l ends before n here rec.end c lt (small n lt) rec.ready in
    let delay = delay_at l (job_at b n) n here in
    let refs = references_at b one.closed before n in
    let complete = complete_at b h n delay refs lt in
    let o = open_at b.settings (job_at b n) delay refs (rows b) in
    record {
      end = state_at b one.closed before n delay (rows b);
      chain = chain_then rec.chain one.chain;
      ready = ready_at b one.closed before (suc n) (Some o) complete;
      behind = λ some. record { closed = one.closed; open_one = Some o; is = refl; complete = complete };
    }

pub pictures_hold : (law : Spelled) (b : Book) → IsBook b → (m : ℕ) (l : Entries) (ends : Bool) (at n : ℕ) → n ≤ length b.pictures → n ≤ m
    → Holds (pictures_text b (coded b m) l ends at n) (pictures_units b (coded b m) l ends at n)
unfolding pictures_text pictures_units
pictures_hold law b h m l ends at zero le few = holds_packs [] [] packs_none
pictures_hold law b h m l ends at (suc n) le few =
    let t = pictures_text b (coded b m) l ends at n in
    packs_append t (picture_text b (coded b m) l ends (at + length t) n) (pictures_units b (coded b m) l ends at n) (picture_units_of b l ends (at + length t) n)
    (pictures_hold law b h m l ends at n (omega (arith, le)) (omega (arith, few)))
    (picture_text_holds law b h l ends m n (at + length t) (omega (arith, le)) (omega (arith, few)))

-- ---- groups

-- the pictures of a group that are coded, and the ledger that knows them
abbrev pub done_of : Settings → Progress → Group Samples → List CodedPicture
done_of s x g = coded (book_of s x g) (length g.pictures)

abbrev pub ledger_of : Settings → Progress → Group Samples → Entries
ledger_of s x g = ledger_behind (book_of s x g) (done_of s x g)

-- a group can follow what is coded
pub record MayFollow (s : Settings) (x : Progress) (g : Group Samples) (ends : Bool) : Type 0 where
  pub book : IsBook (book_of s x g)
  pub small : AreSmall (book_of s x g) (done_of s x g) (ledger_of s x g) ends (length x.text)

-- the units of a group
abbrev pub group_units_of : Settings → Progress → Group Samples → Bool → Units
group_units_of s x g ends = pictures_units (book_of s x g) (done_of s x g) (ledger_of s x g) ends (length x.text) (length g.pictures)

-- a state behind groups, with so many anchors
pub record IsBetween (s : Settings) (st : State) : Type 0 where
  pub closed : Bool
  pub anchors : ℕ
  pub open_one : Option Open
  pub is : st ≡ state_with s closed anchors None open_one
  pub one : 1 ≤ anchors
  pub most : anchors ≤ 2

-- and their last picture is complete
pub record IsSettled (s : Settings) (st : State) : Type 0 where
  pub between : IsBetween s st
  pub complete : is_complete (Some (sequence_by s)) between.open_one ≡ true

-- the state behind what is coded: nothing, or groups
abbrev pub IsAfter : Settings → Progress → State → Type 0
IsAfter s x st = ((x.before ≡ None) × (st ≡ at_first)) ⊎ IsSettled s st

pub start_is : (b : Book) (closed : Bool) (before : ℕ) (open_one : Option Open) → state_with b.settings closed before None open_one ≡ state_before b closed before 0 open_one
unfolding waiting_behind anchors_behind
start_is b closed before open_one = refl

starts_waiting : (b : Book) → waiting_behind b 0 ≡ None
unfolding waiting_behind
starts_waiting b = refl

ready_first : (b : Book) → IsBook b → IsReady b 0 0 at_first
ready_first b h = record {
  complete = refl;
  same = refl;
  waits = sym (ap none_waits (starts_waiting b));
  behind = (false, first_sequence b.settings ∙ start_is b false 0 None);
  plain = λ e. absurd (true_false (begins_group (job_at b 0)) (first_begins b h) e);
}

-- where a group begins
pub record Begins (b : Book) (st : State) : Type 0 where
  pub before : ℕ
  pub counted : IsCounted b before
  pub ready : IsReady b before 0 st

begins_at : (b : Book) → IsBook b → (st : State) → ((b.before ≡ None) × (st ≡ at_first)) ⊎ IsSettled b.settings st → Begins b st
begins_at b h st (inl x) = record {
  before = 0;
  counted = record { most = omega arith; some = λ e. absurd (true_false (is_some b.before) e (ap is_some x.0)) };
  ready = subst (IsReady b 0 0) (sym x.1) (ready_first b h);
}
begins_at b h st (inr settled) =
    let x = settled.between in
    record {
      before = x.anchors;
      counted = record { most = x.most; some = λ e. x.one };
      ready = subst (IsReady b x.anchors 0) (sym (x.is ∙ start_is b x.closed x.anchors x.open_one)) (ready_at b x.closed x.anchors 0 x.open_one settled.complete);
    }

-- parts are read up to a state between groups
pub record Between (s : Settings) (st : State) (parts : List Part) (units : Units) : Type 0 where
  pub end : State
  pub chain : Chain st parts units end
  pub between : IsSettled s end

between_by : (b : Book) → IsBook b → (before : ℕ) (st : State) → IsCounted b before → IsBehind b before (length b.pictures) st → IsSettled b.settings st
between_by b h before st c x =
    let ends = anchors_end b h before c in
    record {
      between = record {
        closed = x.closed;
        anchors = anchors_behind before b (length b.pictures);
        open_one = x.open_one;
        is = x.is ∙ ap (λ (w : Option FirstField). state_with b.settings x.closed (anchors_behind before b (length b.pictures)) w x.open_one) (none_behind b h);
        one = ends.0;
        most = ends.1;
      };
      complete = x.complete;
    }

group_read : (law : Spelled) (s : Settings) (x : Progress) (g : Group Samples) (ends : Bool) (st : State) → MayFollow s x g ends → IsAfter s x st
    → Between s st (group_parts s x g ends) (group_units_of s x g ends)
unfolding group_parts
group_read law s x g ends st may after_it =
    let b = book_of s x g in
    let h = may.book in
    let begin = begins_at b h st after_it in
    let read = pictures_read law b h (done_of s x g) (ledger_of s x g) ends begin.before (length x.text) (length g.pictures) st begin.counted (omega arith) may.small begin.ready in
    let some = h.group.picture in
    record { end = read.end; chain = read.chain; between = between_by b h begin.before read.end begin.counted (read.behind (omega (arith, some))) }

-- each group can follow those before it
unfoldable pub AllFollow : Settings → Progress → List (Group Samples) → Type 0
AllFollow s x [] = Unit {0}
AllFollow s x (g ∷ []) = MayFollow s x g true
AllFollow s x (g ∷ h ∷ more) = MayFollow s x g false × AllFollow s (group_coded s x g false) (h ∷ more)

-- the units of groups, the last of them the last of all
unfoldable pub groups_units : Settings → Progress → List (Group Samples) → Units
groups_units s x [] = []
groups_units s x (g ∷ []) = group_units_of s x g true
groups_units s x (g ∷ h ∷ more) = group_units_of s x g false ++ groups_units s (group_coded s x g false) (h ∷ more)

pub groups_read : (law : Spelled) (s : Settings) (g : Group Samples) (more : List (Group Samples)) (x : Progress) (st : State) → AllFollow s x (g ∷ more) → IsAfter s x st
    → Between s st (groups_parts s x (g ∷ more)) (groups_units s x (g ∷ more))
unfolding groups_parts groups_units AllFollow
groups_read law s g [] x st all after_it = group_read law s x g true st all after_it
groups_read law s g (h ∷ more) x st all after_it =
    let one = group_read law s x g false st all.0 after_it in
    let rest = groups_read law s h more (group_coded s x g false) one.end all.1 (inr one.between) in
    record { end = rest.end; chain = chain_then one.chain rest.chain; between = rest.between }

-- ---- texts

group_holds : (law : Spelled) (s : Settings) (x : Progress) (g : Group Samples) (ends : Bool) → MayFollow s x g ends
    → Holds (pictures_text (book_of s x g) (done_of s x g) (ledger_of s x g) ends (length x.text) (length g.pictures)) (group_units_of s x g ends)
group_holds law s x g ends may =
    pictures_hold law (book_of s x g) may.book (length g.pictures) (ledger_of s x g) ends (length x.text) (length g.pictures) (omega arith) (omega arith)

-- what groups add to the text
pub record Adds (before behind : List Bool) (units : Units) : Type 0 where
  pub bits : List Bool
  pub is : behind ≡ before ++ bits
  pub holds : Holds bits units

pub groups_add : (law : Spelled) (s : Settings) (groups : List (Group Samples)) (x : Progress) → AllFollow s x groups → Adds x.text (groups_coded s x groups).text (groups_units s x groups)
unfolding groups_coded groups_units AllFollow
groups_add law s [] x all = record { bits = []; is = sym (append-nil x.text); holds = holds_packs [] [] packs_none }
groups_add law s (g ∷ []) x all = record { bits = _; is = group_text_is s x g true; holds = group_holds law s x g true all }
groups_add law s (g ∷ h ∷ more) x all =
    let one = group_holds law s x g false all.0 in
    let rest = groups_add law s (h ∷ more) (group_coded s x g false) all.1 in
    let t = pictures_text (book_of s x g) (done_of s x g) (ledger_of s x g) false (length x.text) (length g.pictures) in
    record {
      bits = t ++ rest.bits;
      is = rest.is ∙ ap (λ (u : List Bool). u ++ rest.bits) (group_text_is s x g false) ∙ append_assoc x.text t rest.bits;
      holds = packs_append t rest.bits (group_units_of s x g false) (groups_units s (group_coded s x g false) (h ∷ more)) one rest.holds;
    }
