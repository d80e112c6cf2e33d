-- At constant rate a stream's failures begin as those of the verifier's account do.
use Rattle.std.proofs.Common.{◌≡◌, ℕ, ◌+◌, ◌*◌, ◌≤◌, true, false, List, [], ◌∷◌, length, Option, Some, None, refl, sym, ap, subst, ◌∙◌, arith, le_trans}
use Rattle.std.specs.List.{flat_map, AllByRecursion}
use Rattle.std.proofs.lemmas.Bool.{not-true}
use Rattle.m2v_vbv.specs.Annex.{removed}
use Rattle.m2v_vbv.specs.Buffer.{Buffer, constant_start, removals, left}
use Rattle.m2v_model.specs.declared.state.Sequence.{Sequence}
use Rattle.m2v_model.specs.PieceNotes.{note_of}
use Rattle.m2v_model.specs.Streams.{Sofar}
use Rattle.m2v_model.specs.Pieces.{pieces}
use Rattle.m2v_model.specs.Decoding.{Stream, events, low_delay_of}
use Rattle.m2v_model.specs.ByPieces.{at_start}
use Rattle.m2v_model.specs.Lawful.{Numbered}
use Rattle.m2v_model.specs.Buffering.{StreamAccount, code_bits, account_from, account_by, unsafe_in}
use Rattle.m2v_audit.specs.declared.account.Due.{Due}
use Rattle.m2v_audit.specs.declared.report.Rate.{Rate}
use Rattle.m2v_audit.specs.Account.{pictures, all_told}
use Rattle.m2v_audit.specs.Opening.{varies, step_of, start_of}
use Rattle.m2v_audit.specs.Times.{opened}
use Rattle.m2v_law_audit.specs.Found.{failures_of}
use Rattle.m2v_law_audit.specs.Sequences.{first_byte}
use Rattle.m2v_law_audit.specs.Accounts.{Beginning, dues_from, dues_by, beginning_by, numbered_in, failures_by, FirstAgree, IsOnceAmong, FailsAsChecked}
use Rattle.m2v_law_audit.proofs.AccountFailures.{Begins, begins_so}
use Rattle.m2v_law_audit.proofs.AccountFirst.{agrees_all}
use Rattle.m2v_law_audit.proofs.AccountDues.{bits_are, removals_are, EndsSo, InTurn, dues_in_turn, in_turn, few_numbered, all_end}
use Rattle.m2v_law_audit.proofs.AccountReading.{in_pieces, few_pictures}

begins_constant : (s : Sequence) (at : ℕ) (p : List ℕ) (n : Numbered) (x : Beginning) → Begins s at p n x → x.rate.constant ≡ true
    → x.buffer ≡ constant_start (start_of s (note_of (8 * at + code_bits p) n.picture) (code_bits p)) (step_of s)
begins_constant s at p n x h constant =
    let note = note_of (8 * at + code_bits p) n.picture in
    let off : varies note ≡ false = not-true (varies note) (sym (ap (λ (r : Rate). r.constant) h.rate) ∙ constant) in
    h.buffer ∙ rw off refl

-- with a first sequence header, a first piece and a first picture
agrees_begun : (number at : ℕ) (s : Sequence) (p : List ℕ) (ps : List (List ℕ)) (n : Numbered) (ns : List Numbered) (x : Beginning) → Begins s at p n x → x.rate.constant ≡ true → AllByRecursion IsOnceAmong (n ∷ ns) → AllByRecursion EndsSo (n ∷ ns)
    → length (n ∷ ns) ≤ length (p ∷ ps) → InTurn 0 (n ∷ ns)
    → FirstAgree (flat_map (failures_of number x.rate) (all_told x.buffer (dues_from (opened s.extension.low_delay s.info.frame_rate_code) at (p ∷ ps) (n ∷ ns))))
    (unsafe_in (Some (account_from s.extension.low_delay s n (p ∷ ps) (n ∷ ns))))
agrees_begun number at s p ps n ns x h constant once ends le turn =
    let t = opened s.extension.low_delay s.info.frame_rate_code in
    let ds : List Due = dues_from t at (p ∷ ps) (n ∷ ns) in
    let a : StreamAccount = account_from s.extension.low_delay s n (p ∷ ps) (n ∷ ns) in
    let size : x.rate.size ≡ 1800 * a.start.buffer_bits = ap (λ (r : Rate). r.size) h.rate in
    let bits : removed (removals (pictures ds)) ≡ a.total = bits_are t at p ps n ns (omega (arith, le)) in
    let total : left (pictures ds) 0 ≡ a.total = omega (arith, bits) in
    let are : removals (pictures ds) ≡ a.removals = removals_are s.extension.low_delay s.info.frame_rate_code at (p ∷ ps) (n ∷ ns) le once ends in
    subst (λ (b : Buffer). FirstAgree (flat_map (failures_of number x.rate) (all_told b ds)) (unsafe_in (Some a))) (sym (begins_constant s at p n x h constant))
    (agrees_all number x.rate a (step_of s) ds size (dues_in_turn 0 t at (p ∷ ps) (n ∷ ns) turn) total are)

agrees_by : (number at : ℕ) (o : Option Sequence) (ps : List (List ℕ)) (ns : List Numbered) (x : Beginning) → beginning_by o at ps ns ≡ Some x → x.rate.constant ≡ true → AllByRecursion IsOnceAmong ns → AllByRecursion EndsSo ns → length ns ≤ length ps
    → InTurn 0 ns → FirstAgree (failures_by number (Some x) (dues_by o at ps ns)) (unsafe_in (account_by (low_delay_of o) o ps ns))
agrees_by number at None ps ns x e constant once ends le turn = absurd cc
agrees_by number at (Some s) [] ns x e constant once ends le turn = absurd cc
agrees_by number at (Some s) (p ∷ ps) [] x e constant once ends le turn = absurd cc
agrees_by number at (Some s) (p ∷ ps) (n ∷ ns) x e constant once ends le turn = agrees_begun number at s p ps n ns x (begins_so s at p ps n ns x e) constant once ends le turn

-- the first failure that is told is the first of the verifier's account
pub fails_as_checked : (text : List ℕ) (tree : Sofar) → Stream text tree → FailsAsChecked text tree
fails_as_checked text tree stream number start x e constant once =
    let r = in_pieces text tree stream in
    let ns = numbered_in tree in
    let few : length ns ≤ length (pieces text) = le_trans (few_numbered None 0 false 0 0 (events tree)) (few_pictures at_start (pieces text) (events tree) r.turns) in
    subst (λ (o : Option Beginning). FirstAgree (failures_by number o (dues_by tree.state.first (first_byte start text) (pieces text) ns)) (unsafe_in (account_by (low_delay_of tree.state.first) tree.state.first (pieces text) ns))) (sym e)
    (agrees_by number (first_byte start text) tree.state.first (pieces text) ns x e constant once (all_end false None 0 false 0 0 (events tree) r.alternates) few (in_turn None 0 false 0 0 (events tree)))
