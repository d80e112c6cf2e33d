-- What is told of a picture whose slices are read one behind another.
use Rattle.std.proofs.Common.{◌≡◌, ℕ, ◌-◌, ◌*◌, Bool, true, false, cond, List, [], ◌∷◌, Option, Some, None, Result, Ok, Err, refl, sym, ap, subst, ◌∙◌, arith}
use Rattle.std.specs.Prelude.{nat_eq}
use Rattle.std.proofs.lemmas.Bool.{eq-eqb, ne_eqb}
use Rattle.m2v_bits.proofs.SyntaxLaws.{bad}
use Rattle.m2v_plane.specs.Samples.{Samples}
use Rattle.m2v_model.specs.declared.fault.FaultKind.{FaultKind}
use Rattle.m2v_model.specs.declared.fault.FaultKind.TheVariants.{MissingMacroblocks}
use Rattle.m2v_model.specs.declared.setup.SliceSetup.{SliceSetup}
use Rattle.m2v_model.specs.declared.state.Sequence.{Sequence}
use Rattle.m2v_model.specs.declared.state.Open.{Open}
use Rattle.m2v_model.specs.declared.state.State.{State}
use Rattle.m2v_model.specs.Units.{Units}
use Rattle.m2v_model.specs.States.{columns_of, picture_rows, slice_setup, after_end, is_complete, crowded_by}
use Rattle.m2v_model.specs.Samples.{put_in_frame}
use Rattle.m2v_model.specs.Streams.{Part, over, after}
use Rattle.m2v_model.specs.Pictures.{Store, Events, coded_picture, picture_of, picture_ended, on_frame}
use Rattle.m2v_model.specs.ByPieces.{Between, Course, units_read, unit_read}
use Rattle.m2v_model.proofs.FlowLaws.{read_err, read_last}
use Rattle.m2v_model.proofs.PieceLaws.{placed}
use Rattle.m2v_dec_picture.specs.Conditions.{rows_in}
use Rattle.m2v_dec_rows.specs.Rows.{Begun, Read, begun_painted, slices_painted, first_of}
use Rattle.m2v_dec_rows.proofs.ByRowLaws.{with_front}
use Rattle.m2v_dec_rows.specs.Halves.{frames_painted}
use Rattle.m2v_dec_rows.proofs.Behind.{open_at}

abbrev pub at_open : State → Sequence → Open → Store → Between
at_open z s o store = record { state = open_at z s o; store = store }

-- ---- what is told

-- the picture ends, with these frames
abbrev pub closed_with : State → Sequence → Open → Store → ℕ → Course
closed_with z s o f n = Ok (coded_picture (record (picture_of o f) { crowded_row = n }) ∷ [], record { state = after_end (open_at z s o); store = picture_ended (Some o) f })

abbrev pub ClosesWith : State → Sequence → Open → Store → Course → Type 0
ClosesWith z s o f r = (n : ℕ) × (r ≡ closed_with z s o f n)

-- its end is reached: it is covered, or macroblocks are missing
pub record Ends (end : ℕ) (setup : SliceSetup) (z : State) (s : Sequence) (o : Open) (store : Store) (x : List Begun × ℕ) (r : Course) : Type 0 where
  pub covered : x.1 ≡ first_of setup (rows_in setup) → ClosesWith z s o (frames_painted setup x.0 store) r
  pub missing : (x.1 ≡ first_of setup (rows_in setup) → ⊥) → r ≡ Err (MissingMacroblocks, 8 * end)

-- by what was read of its slices, and the fault behind them
abbrev pub Tells : ℕ → SliceSetup → State → Sequence → Open → Store → Option (FaultKind × ℕ) → Read → Course → Type 0
Tells end setup z s o store fault (Err g) r = r ≡ Err g
Tells end setup z s o store None (Ok x) r = Ends end setup z s o store x r
Tells end setup z s o store (Some f) (Ok x) r = r ≡ Err (f.0, 8 * end - f.1)

-- ---- frames

on_same : (c : Option Samples) → on_frame (λ frame. frame) c ≡ c
on_same (Some frame) = refl
on_same None = refl

on_twice : (f g : Samples → Samples) (c : Option Samples) → on_frame f (on_frame g c) ≡ on_frame (λ frame. f (g frame)) c
on_twice f g (Some frame) = refl
on_twice f g None = refl

painted_none : (setup : SliceSetup) (store : Store) → store ≡ frames_painted setup [] store
unfolding slices_painted
painted_none setup store = ap (λ (c : Option Samples). record store { current = c }) (sym (on_same store.current))

-- a slice is painted before others
abbrev pub frames_behind : SliceSetup → Begun → Store → Store
frames_behind setup x store = record store { current = on_frame (λ frame. begun_painted put_in_frame setup store.references frame x) store.current }

painted_more : (setup : SliceSetup) (x : Begun) (xs : List Begun) (store : Store) → frames_painted setup xs (frames_behind setup x store) ≡ frames_painted setup (x ∷ xs) store
unfolding slices_painted
painted_more setup x xs store =
    ap (λ (c : Option Samples). record store { current = c })
    (on_twice (λ frame. slices_painted put_in_frame setup store.references frame xs) (λ frame. begun_painted put_in_frame setup store.references frame x) store.current)

-- ---- the end of the text

complete_by : (b : Bool) (s : Sequence) (o : Open) → o.slices_unread ≡ false → nat_eq o.covered (columns_of s * picture_rows s o) ≡ b → is_complete (Some s) (Some o) ≡ b
complete_by b s o unread e = rw (unread, e) refl

abbrev at_end : Bool → Units → Result ((Bool × Part) × Units) (FaultKind × ℕ)
at_end b mid = cond b (Ok ((false, over), mid)) (Err (MissingMacroblocks, 0))

pub ends : (end : ℕ) (z : State) (s : Sequence) (o : Open) (store : Store) (us mid : Units) → o.slices_unread ≡ false → unit_read (open_at z s o) us ≡ at_end (is_complete (Some s) (Some o)) mid
    → Ends end (slice_setup z s o) z s o store ([], o.covered) (placed end (units_read (at_open z s o store) us))
unfolding slice_setup after picture_of
ends end z s o store us mid unread e =
    let b = at_open z s o store in
    let setup = slice_setup z s o in
    record {
      covered = λ all.
          let commuted : o.covered ≡ columns_of s * picture_rows s o = omega (arith, all) in
          let got : unit_read (open_at z s o) us ≡ at_end true mid = e ∙ ap (λ (x : Bool). at_end x mid) (complete_by true s o unread (eq-eqb o.covered (columns_of s * picture_rows s o) commuted)) in
          let told = ap (placed end) (read_last b us mid false over got refl) in
          (crowded_by o, told ∙ ap (λ (f : Store). closed_with z s o f (crowded_by o)) (painted_none setup store));
      missing = λ some.
          let other : o.covered ≡ columns_of s * picture_rows s o → ⊥ = λ q. some (omega (arith, q)) in
          let got : unit_read (open_at z s o) us ≡ at_end false mid = e ∙ ap (λ (x : Bool). at_end x mid) (complete_by false s o unread (ne_eqb o.covered (columns_of s * picture_rows s o) other)) in
          let place : 8 * end - 0 ≡ 8 * end = omega arith in
          ap (placed end) (read_err b us (MissingMacroblocks, 0) got) ∙ ap (λ (n : ℕ). bad {T = Between} {V = Events} (MissingMacroblocks, n)) place;
    }

-- ---- a slice before others

pub front : (end : ℕ) (setup : SliceSetup) (z : State) (s : Sequence) (o : Open) (store : Store) (x : Begun) (fault : Option (FaultKind × ℕ)) (read : Read) (r : Course)
    → Tells end setup z s o (frames_behind setup x store) fault read r → Tells end setup z s o store fault (with_front (x ∷ []) read) r
unfolding with_front
front end setup z s o store x fault (Err g) r t = t
front end setup z s o store x (Some f) (Ok y) r t = t
front end setup z s o store x None (Ok y) r t = record {
  covered = λ all. subst (λ (f : Store). ClosesWith z s o f r) (painted_more setup x y.0 store) (t.covered all);
  missing = t.missing;
}
