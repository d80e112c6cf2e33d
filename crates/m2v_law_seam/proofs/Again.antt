-- What is read of a strand by itself is read of it behind another one.
use Rattle.std.proofs.Common.{◌≡◌, ℕ, true, false, List, [], ◌∷◌, ◌++◌, Option, Some, inl, inr, sym, ap, subst, ◌∙◌}
use Rattle.std.proofs.lemmas.Option.{same_Some}
use Rattle.std.specs.Prelude.{is_some, ◌||◌}
use Rattle.m2v_bits.proofs.SyntaxLaws.{good}
use Rattle.m2v_model.specs.declared.state.Sequence.{Sequence}
use Rattle.m2v_model.specs.declared.state.Open.{Open}
use Rattle.m2v_model.specs.declared.state.FirstField.{FirstField}
use Rattle.m2v_model.specs.declared.state.State.{State}
use Rattle.m2v_model.specs.Units.{Units, unit_bits}
use Rattle.m2v_model.specs.States.{is_b, is_frame, is_same_sequence}
use Rattle.m2v_model.specs.Streams.{Part, sequence, group, picture, matrices, slice, unread_slice, skipped_unit, ending, over, after, value_of, known_unit}
use Rattle.m2v_model.specs.Pictures.{Store, told_by, store_after, events_from, store_from}
use Rattle.m2v_model.specs.ByPieces.{unit_read}
use Rattle.m2v_model.proofs.StreamLaws.{known_lawful}
use Rattle.m2v_law_group.proofs.Alike.{PartsAlike, Knows, known_follows}
use Rattle.m2v_law_group.proofs.Counted.{anchors_by, waiting_by}
use Rattle.m2v_law_group.proofs.Steps.{ToldBeside}
use Rattle.m2v_law_group.proofs.Runs.{Run, stop, step, none_ends, told_then}
use Rattle.m2v_law_seam.proofs.Behind.{Stands, AreSeamed, StandsPart, seamed_on, turned, has_anchor_again}

-- ---- parts that may stand in a strand

-- behind so many anchors, and where a first field waits or doesn't
abbrev pub AllStand : ℕ → Option FirstField → List Part → Type 0
AllStand anchors waiting [] = Unit {0}
AllStand anchors waiting (sequence s ∷ ps) = AllStand anchors waiting ps
AllStand anchors waiting (group g ∷ ps) = AllStand anchors waiting ps
AllStand anchors waiting (picture info extension ∷ ps) =
    Stands anchors info.kind
    × AllStand (anchors_by (is_frame extension || is_some waiting) (is_b info.kind) anchors) (waiting_by (is_frame extension || is_some waiting) info extension) ps
AllStand anchors waiting (matrices m ∷ ps) = AllStand anchors waiting ps
AllStand anchors waiting (slice row x ∷ ps) = AllStand anchors waiting ps
AllStand anchors waiting (unread_slice row u ∷ ps) = AllStand anchors waiting ps
AllStand anchors waiting (skipped_unit u ∷ ps) = AllStand anchors waiting ps
AllStand anchors waiting (ending ∷ ps) = AllStand anchors waiting ps
AllStand anchors waiting (over ∷ ps) = AllStand anchors waiting ps

abbrev pub AllStandBehind : State → List Part → Type 0
AllStandBehind c ps = AllStand c.anchors c.waiting ps

first_stands : (c : State) (p : Part) (ps : List Part) → AllStandBehind c (p ∷ ps) → StandsPart c p
first_stands c (picture info extension) ps h = h.0
first_stands c _ ps h = tt

others_stand : (c : State) (p : Part) (ps : List Part) → AllStandBehind c (p ∷ ps) → AllStandBehind (after c p) ps
unfolding after
others_stand c (picture info extension) ps h = h.1
others_stand c _ ps h = h

pub stand_front : (anchors : ℕ) (waiting : Option FirstField) (ps qs : List Part) → AllStand anchors waiting (ps ++ qs) → AllStand anchors waiting ps
stand_front anchors waiting [] qs h = tt
stand_front anchors waiting (sequence s ∷ ps) qs h = stand_front anchors waiting ps qs h
stand_front anchors waiting (group g ∷ ps) qs h = stand_front anchors waiting ps qs h
stand_front anchors waiting (picture info extension ∷ ps) qs h = (
  h.0,
  stand_front (anchors_by (is_frame extension || is_some waiting) (is_b info.kind) anchors) (waiting_by (is_frame extension || is_some waiting) info extension) ps qs h.1,
)
stand_front anchors waiting (matrices m ∷ ps) qs h = stand_front anchors waiting ps qs h
stand_front anchors waiting (slice row x ∷ ps) qs h = stand_front anchors waiting ps qs h
stand_front anchors waiting (unread_slice row u ∷ ps) qs h = stand_front anchors waiting ps qs h
stand_front anchors waiting (skipped_unit u ∷ ps) qs h = stand_front anchors waiting ps qs h
stand_front anchors waiting (ending ∷ ps) qs h = stand_front anchors waiting ps qs h
stand_front anchors waiting (over ∷ ps) qs h = stand_front anchors waiting ps qs h

-- ---- a unit

-- no slice is left out, since the picture that is open is the same
none_left : (w c : State) (u : List ℕ) (p q : Part) → w.picture ≡ c.picture → PartsAlike c w u p q → q ≡ p
none_left w c u p q same (inl e) = e
none_left w c u p q same (inr l) =
    let one : l.other ≡ l.own = same_Some l.other l.own (sym l.other_is ∙ same ∙ l.own_is) in
    let wrong : true ≡ false = sym (l.left).unread ∙ ap (λ (o : Open). o.slices_unread) one ∙ l.read in
    absurd cc

record ReadsAgain (w c : State) (us mid : Units) (p : Part) : Type 0 where
  known : Knows c p
  read : unit_read w us ≡ good ((true, p), mid)

reads_again : (f g : Sequence) (k : ℕ) (w c : State) (sw sc : Store) (us mid : Units) (p : Part) → ((s : Sequence) → is_same_sequence (Some g) s ≡ true → is_same_sequence (Some f) s ≡ true) → AreSeamed f g k w c sw sc → StandsPart c p
    → unit_read c us ≡ good ((true, p), mid) → ReadsAgain w c us mid p
unfolding unit_read
reads_again f g k w c sw sc [] mid p back b h e = let wrong = none_ends c (true, p) mid e in absurd cc
reads_again f g k w c sw sc (u ∷ us) mid p back b h e =
    let start = unit_bits (u ∷ us) in
    let s = (known_lawful c start (value_of u) u).found (true, p) us mid e in
    let x = known_follows c w start (value_of u) u (turned f g k w c sw sc back b) (true, p) us mid s (λ known. has_anchor_again w c p b.reach h) in
    let one : x.0 ≡ p = none_left w c u p x.0 b.same x.1.0 in
    let own = (known_lawful w start (value_of u) u).only (true, x.0) us mid x.2 in
    record {
      known = x.1.1;
      read = subst (λ (y : Part). (known_unit w start (value_of u) u).read us ≡ good ((true, y), mid)) one own;
    }

-- ---- units

pub record RunsAgain (f g : Sequence) (k : ℕ) (w : State) (sw sc : Store) (us rest : Units) (ps : List Part) (c z : State) : Type 0 where
  pub state : State
  pub run : Run w us ps state rest
  pub next : ℕ
  pub both : AreSeamed f g next state z (store_from w sw ps) (store_from c sc ps)
  pub told : ToldBeside true k next (events_from w sw ps) (events_from c sc ps)

pub runs_again : {c z : State} {us rest : Units} {ps : List Part} → Run c us ps z rest → (f g : Sequence) (k : ℕ) (w : State) (sw sc : Store) → ((s : Sequence) → is_same_sequence (Some g) s ≡ true → is_same_sequence (Some f) s ≡ true) → AreSeamed f g k w c sw sc → AllStandBehind c ps
    → RunsAgain f g k w sw sc us rest ps c z
unfolding events_from store_from
runs_again stop f g k w sw sc back b h = record { state = w; run = stop; next = k; both = b; told = λ ps qs x. x }
runs_again {c} (step {p = p} {ps = ps} e later) f g k w sw sc back b h =
    let own = first_stands c p ps h in
    let r = reads_again f g k w c sw sc _ _ p back b own e in
    let s = seamed_on f g k w c sw sc p b own r.known in
    let i = runs_again later f g s.next (after w p) (store_after w sw p) (store_after c sc p) back s.both (others_stand c p ps h) in
    record {
      state = i.state;
      run = step r.read i.run;
      next = i.next;
      both = i.both;
      told = told_then true k s.next i.next (told_by w sw p) (told_by c sc p) (events_from (after w p) (store_after w sw p) ps) (events_from (after c p) (store_after c sc p) ps) s.told i.told;
    }
