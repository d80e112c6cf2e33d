-- The pictures of a stream as its buffer sees them, beside those of the verifier's account: the same bits and the same times.
use Rattle.std.proofs.Common.{◌≡◌, ℕ, ◌+◌, ◌≤◌, Bool, true, false, ◌||◌, not, List, [], ◌∷◌, length, map, Option, Some, None, refl, sym, ap, ◌∙◌, arith}
use Rattle.std.specs.Prelude.{if◌then◌else◌}
use Rattle.std.specs.List.{AllByRecursion}
use Rattle.std.proofs.lemmas.List.Sums.{sum_by-cons}
use Rattle.m2v_vbv.specs.Annex.{Removal, removed}
use Rattle.m2v_vbv.specs.Buffer.{removals}
use Rattle.m2v_model.specs.States.{is_frame}
use Rattle.m2v_model.specs.Pictures.{Events, sequence_header, group_header, coded_picture, pictures_in}
use Rattle.m2v_model.specs.declared.state.Sequence.{Sequence}
use Rattle.m2v_model.specs.Lawful.{Numbered, numbered}
use Rattle.m2v_model.specs.Buffering.{bits_of_piece, sizes, intervals, joined_removals}
use Rattle.m2v_audit.specs.m2v_check.declared.coded.CodedPicture.{CodedPicture}
use Rattle.m2v_audit.specs.m2v_check.declared.times.Times.{Times as Checked}
use Rattle.m2v_audit.specs.m2v_check.Breaking.{numbered_of}
use Rattle.m2v_audit.specs.m2v_check.Holding.{time_behind, repeats_behind}
use Rattle.m2v_audit.specs.m2v_check.Laws.{Alternates}
use Rattle.m2v_audit.specs.Account.{pictures}
use Rattle.m2v_audit.specs.Times.{Times, IsOnce, opened, time_of, after, times}
use Rattle.m2v_audit.proofs.Showing.{all_times}
use Rattle.m2v_audit.proofs.m2v_check.Listed.{all_bits}
use Rattle.m2v_law_audit.specs.Accounts.{coded_at, dues_from, IsOnceAmong}
use Rattle.m2v_law_audit.proofs.AccountFirst.{AreNumbered}

-- ---- bits

-- where there is a piece for each picture, all bits of pieces are those of some picture
pub bits_are : (t : Times) (at : ℕ) (p : List ℕ) (ps : List (List ℕ)) (n : Numbered) (ns : List Numbered) → length ns ≤ length ps → removed (removals (pictures (dues_from t at (p ∷ ps) (n ∷ ns)))) ≡ all_bits (p ∷ ps)
unfolding dues_from
bits_are t at p ps n [] le = sum_by-cons (λ (x : Removal). x.bits) (record { bits = all_bits (p ∷ ps); units = time_of t n.sequence (coded_at at p n).note }) [] ∙ omega arith
bits_are t at p [] n (m ∷ ns) le = absurd (omega (arith, le))
bits_are t at p (q ∷ ps) n (m ∷ ns) le =
    let c = coded_at at p n in
    let more = bits_are (after t c.sequence c.note) (at + length p) q ps m ns (omega (arith, le)) in
    sum_by-cons (λ (x : Removal). x.bits) (record { bits = bits_of_piece p; units = time_of t c.sequence c.note }) (removals (pictures (dues_from (after t c.sequence c.note) (at + length p) (q ∷ ps) (m ∷ ns))))
    ∙ ap (λ (x : ℕ). bits_of_piece p + x) more ∙ sym (sum_by-cons (λ (x : ℕ). x) (bits_of_piece p) (map bits_of_piece (q ∷ ps)))

-- ---- times

-- a picture among the others; where its piece stands is of no matter to its times
abbrev pub coded_of : Numbered → CodedPicture
coded_of n = coded_at 0 [] n

timed_are : (t : Times) (at : ℕ) (ps : List (List ℕ)) (ns : List Numbered) → length ns ≤ length ps → removals (pictures (dues_from t at ps ns)) ≡ joined_removals (sizes (length ns) (map bits_of_piece ps)) (times t (map coded_of ns))
unfolding dues_from joined_removals sizes times
timed_are t at ps [] le = refl
timed_are t at [] (n ∷ ns) le = absurd (omega (arith, le))
timed_are t at (p ∷ ps) (n ∷ []) le = refl
timed_are t at (p ∷ ps) (n ∷ m ∷ ns) le =
    let c = coded_at at p n in
    let r : Removal = record { bits = bits_of_piece p; units = time_of t c.sequence c.note } in
    ap (λ (l : List Removal). r ∷ l) (timed_are (after t c.sequence c.note) (at + length p) ps (m ∷ ns) (omega (arith, le)))

all_once : (ns : List Numbered) → AllByRecursion IsOnceAmong ns → AllByRecursion IsOnce (map coded_of ns)
all_once [] all = tt
all_once (n ∷ ns) all = (all.0, all_once ns all.1)

-- a picture ends its frame where it is a frame picture or a second field
abbrev pub EndsSo : Numbered → Type 0
EndsSo n = n.picture.ends_frame ≡ (is_frame n.picture.extension || not n.picture.begins_frame)

abbrev with_end : Numbered → Bool → Numbered
with_end n ends = record n { picture = record n.picture { ends_frame = ends } }

-- what is noted of pictures has the same times
noted_intervals : (low_delay : Bool) (code : ℕ) (before : Bool) (ns : List Numbered) → AllByRecursion EndsSo ns → intervals low_delay code before (map numbered_of (map coded_of ns)) ≡ intervals low_delay code before ns
unfolding intervals
noted_intervals low_delay code before [] all = refl
noted_intervals low_delay code before (n ∷ ns) all =
    let t : Checked = record { low_delay = low_delay; code = code; repeats = before } in
    ap (λ (e : Bool). intervals low_delay code before (with_end n e ∷ map numbered_of (map coded_of ns))) (sym all.0)
    ∙ ap (λ (l : List ℕ). time_behind t n ∷ l) (noted_intervals low_delay code (repeats_behind t n) ns all.1)

-- the removals of the verifier's account, where no frame is repeated in a progressive sequence
pub removals_are : (low_delay : Bool) (code at : ℕ) (ps : List (List ℕ)) (ns : List Numbered) → length ns ≤ length ps → AllByRecursion IsOnceAmong ns → AllByRecursion EndsSo ns
    → removals (pictures (dues_from (opened low_delay code) at ps ns)) ≡ joined_removals (sizes (length ns) (map bits_of_piece ps)) (intervals low_delay code false ns)
removals_are low_delay code at ps ns le once ends =
    timed_are (opened low_delay code) at ps ns le
    ∙ ap (joined_removals (sizes (length ns) (map bits_of_piece ps))) (all_times low_delay code (map coded_of ns) (all_once ns once) ∙ noted_intervals low_delay code false ns ends)

-- ---- numbers

-- pictures have these numbers, one after another
abbrev pub InTurn : ℕ → List Numbered → Type 0
InTurn k [] = Unit {0}
InTurn k (n ∷ ns) = (n.number ≡ k) × InTurn (k + 1) ns

pub dues_in_turn : (k : ℕ) (t : Times) (at : ℕ) (ps : List (List ℕ)) (ns : List Numbered) → InTurn k ns → AreNumbered k (dues_from t at ps ns)
unfolding dues_from
dues_in_turn k t at ps [] turn = tt
dues_in_turn k t at [] (n ∷ ns) turn = tt
dues_in_turn k t at (p ∷ ps) (n ∷ []) turn = (turn.0, tt)
dues_in_turn k t at (p ∷ ps) (n ∷ m ∷ ns) turn =
    let c = coded_at at p n in
    (turn.0, dues_in_turn (k + 1) (after t c.sequence c.note) (at + length p) ps (m ∷ ns) turn.1)

pub in_turn : (o : Option Sequence) (group : ℕ) (first_in_group : Bool) (number frames : ℕ) (es : Events) → InTurn number (numbered o group first_in_group number frames es)
unfolding numbered
in_turn o group first_in_group number frames [] = tt
in_turn o group first_in_group number frames (sequence_header s ∷ es) = in_turn (Some s) group first_in_group number frames es
in_turn o group first_in_group number frames (group_header g ∷ es) = in_turn o (group + 1) true number frames es
in_turn None group first_in_group number frames (coded_picture p ∷ es) = in_turn None group first_in_group number frames es
in_turn (Some s) group first_in_group number frames (coded_picture p ∷ es) = (refl, in_turn (Some s) group false (number + 1) (if p.ends_frame then frames + 1 else frames) es)

pub few_numbered : (o : Option Sequence) (group : ℕ) (first_in_group : Bool) (number frames : ℕ) (es : Events) → length (numbered o group first_in_group number frames es) ≤ length (pictures_in es)
unfolding numbered
few_numbered o group first_in_group number frames [] = omega arith
few_numbered o group first_in_group number frames (sequence_header s ∷ es) = few_numbered (Some s) group first_in_group number frames es
few_numbered o group first_in_group number frames (group_header g ∷ es) = few_numbered o (group + 1) true number frames es
few_numbered None group first_in_group number frames (coded_picture p ∷ es) = let more = few_numbered None group first_in_group number frames es in omega (arith, more)
few_numbered (Some s) group first_in_group number frames (coded_picture p ∷ es) =
    let more = few_numbered (Some s) group false (number + 1) (if p.ends_frame then frames + 1 else frames) es in
    omega (arith, more)

pub all_end : (waits : Bool) (o : Option Sequence) (group : ℕ) (first_in_group : Bool) (number frames : ℕ) (es : Events) → Alternates waits (pictures_in es) → AllByRecursion EndsSo (numbered o group first_in_group number frames es)
unfolding numbered
all_end waits o group first_in_group number frames [] alternates = tt
all_end waits o group first_in_group number frames (sequence_header s ∷ es) alternates = all_end waits (Some s) group first_in_group number frames es alternates
all_end waits o group first_in_group number frames (group_header g ∷ es) alternates = all_end waits o (group + 1) true number frames es alternates
all_end waits None group first_in_group number frames (coded_picture p ∷ es) alternates = all_end (not p.ends_frame) None group first_in_group number frames es alternates.2
all_end waits (Some s) group first_in_group number frames (coded_picture p ∷ es) alternates =
    (alternates.0, all_end (not p.ends_frame) (Some s) group false (number + 1) (if p.ends_frame then frames + 1 else frames) es alternates.2)
