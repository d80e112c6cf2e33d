-- What follows for settings that pass.
use Rattle.std.proofs.Common.{◌≡◌, ℕ, ◌*◌, ◌%◌, ◌≤◌, List, [], ◌∷◌, refl, sym, ◌∙◌, Bool, true, false, Result, Ok, Err, arith, if◌then◌else◌}
use Rattle.std.proofs.lemmas.Bool.{leb-true, eqb-true}
use Rattle.m2v_set.specs.declared.limits.Limits.{Limits}
use Rattle.m2v_set.specs.declared.unfit.Unfit.{Unfit}
use Rattle.m2v_set.specs.declared.settings.Settings.{Settings}
use Rattle.m2v_set.specs.declared.settings.Level.{Level}
use Rattle.m2v_set.specs.declared.settings.Scan.{Scan}
use Rattle.m2v_set.specs.declared.settings.Level.TheVariants.{Main, High1440, High}
use Rattle.m2v_set.specs.declared.settings.Scan.TheVariants.{Progressive, Frames, Fields}
use Rattle.m2v_set.specs.Numbers.{limits_of, frame_time}
use Rattle.m2v_set.specs.Rules.{Condition, judge, judged, and_then, frame_rules, channel_rules, buffer_rules, delay_rules, choice_rules, pulldown_rules, scan_number, line_step, Passes}
use Rattle.m2v_set.specs.Bounds.{InSize, InLevel, InTime, InChoice, InPulldown, Bounds}
use Rattle.m2v_set.proofs.Judged.{in_turn}

-- two judgements in a row pass where each of them does
pub and_then-first : (a b : Result (Unit {0}) Unfit) → and_then a b ≡ Ok tt → a ≡ Ok tt
unfolding and_then
and_then-first (Ok passed) b e = refl
and_then-first (Err unfit) b e = cc

pub and_then-next : (a b : Result (Unit {0}) Unfit) → and_then a b ≡ Ok tt → b ≡ Ok tt
unfolding and_then
and_then-next (Ok passed) b e = e
and_then-next (Err unfit) b e = cc

-- a condition that passes holds
pub judge-holds : (c : Condition) → judge c ≡ Ok tt → c.holds ≡ true
unfolding judge
judge-holds c e = by_case c.holds refl
  where
    by_case : (b : Bool) → c.holds ≡ b → c.holds ≡ true
    by_case true is = is
    by_case false is = cc

-- each condition of the list holds
abbrev pub AllHold : List Condition → Type 0
AllHold [] = Unit {0}
AllHold (c ∷ cs) = (c.holds ≡ true) × AllHold cs

-- where a list of conditions passes, each of them holds
pub all_hold : (cs : List Condition) → judged cs ≡ Ok tt → AllHold cs
unfolding judged
all_hold [] e = tt
all_hold (c ∷ cs) e =
    (judge-holds c (and_then-first (judge c) (judged cs) e), all_hold cs (and_then-next (judge c) (judged cs) e))

-- what bounds every level
record InLimits (limit : Limits) : Type 0 where
  pub width : limit.width ≤ 1920
  pub height : limit.height ≤ 1152
  pub codes : limit.codes ≤ 8
  pub bits : limit.bits ≤ 200000
  pub buffer : limit.buffer ≤ 597

in_limits : (l : Level) → InLimits (limits_of l)
unfolding limits_of
in_limits Main = record { width = omega arith; height = omega arith; codes = omega arith; bits = omega arith; buffer = omega arith }
in_limits High1440 = record { width = omega arith; height = omega arith; codes = omega arith; bits = omega arith; buffer = omega arith }
in_limits High = record { width = omega arith; height = omega arith; codes = omega arith; bits = omega arith; buffer = omega arith }

-- what the first part of rule 1 says
pub record InFrame (limit : Limits) (scan : Scan) (across down number : ℕ) : Type 0 where
  pub wide : 2 ≤ across
  pub width : across ≤ limit.width
  pub even : across % 2 ≡ 0
  pub tall : line_step scan ≤ down
  pub height : down ≤ limit.height
  pub lines : down % line_step scan ≡ 0
  pub code : 1 ≤ number
  pub codes : number ≤ limit.codes
  pub luma : 720000 * across * down ≤ limit.luma * frame_time number

pub in_frame : (limit : Limits) (scan : Scan) (across down number : ℕ) → judged (frame_rules limit scan across down number) ≡ Ok tt → InFrame limit scan across down number
unfolding frame_rules
in_frame limit scan across down number e =
    let h = all_hold (frame_rules limit scan across down number) e in
    record {
      wide = leb-true _ _ h.0;
      width = leb-true _ _ h.1.0;
      even = eqb-true _ _ h.1.1.0;
      tall = leb-true _ _ h.1.1.1.0;
      height = leb-true _ _ h.1.1.1.1.0;
      lines = eqb-true _ _ h.1.1.1.1.1.0;
      code = leb-true _ _ h.1.1.1.1.1.1.0;
      codes = leb-true _ _ h.1.1.1.1.1.1.1.0;
      luma = leb-true _ _ h.1.1.1.1.1.1.1.1.0;
    }

-- rule 1 says the bounds of the level, and those of every level
in_rates : (s : Settings) → InFrame (limits_of s.level) s.scan s.width s.height s.rate_code → judged (channel_rules (limits_of s.level) s) ≡ Ok tt → InSize s × InLevel s
unfolding channel_rules
in_rates s f e =
    let k = all_hold (channel_rules (limits_of s.level) s) e in
    let bits : s.bits ≤ (limits_of s.level).bits = leb-true _ _ k.1.0 in
    let buffer : s.buffer ≤ (limits_of s.level).buffer = leb-true _ _ k.1.1.1.0 in
    let l = in_limits s.level in (
      record {
        wide = f.wide;
        width = omega (arith, f.width, l.width);
        even = f.even;
        tall = f.tall;
        height = omega (arith, f.height, l.height);
        lines = f.lines;
        code = f.code;
        codes = omega (arith, f.codes, l.codes);
        bit = leb-true _ _ k.0;
        bits = omega (arith, l.bits);
        buffered = leb-true _ _ k.1.1.0;
        buffer = omega (arith, l.buffer);
      },
      record { width = f.width; height = f.height; codes = f.codes; luma = f.luma; bits = bits; buffer = buffer },
    )

in_time : (s : Settings) → judged (buffer_rules s) ≡ Ok tt → judged (delay_rules s) ≡ Ok tt → InTime s
unfolding buffer_rules delay_rules
in_time s e f =
    let h = all_hold (buffer_rules s) e in
    let k = all_hold (delay_rules s) f in
    record {
      arrives = leb-true _ _ h.0;
      takes = leb-true _ _ h.1.0;
      holds = leb-true _ _ h.1.1.0;
      fills = leb-true _ _ h.1.1.1.0;
      starts = leb-true _ _ k.0;
      waits = leb-true _ _ k.1.0;
    }

in_choice : (s : Settings) → judged (choice_rules s) ≡ Ok tt → InChoice s
unfolding choice_rules
in_choice s e =
    let h = all_hold (choice_rules s) e in
    record {
      grouped = leb-true _ _ h.0;
      group = leb-true _ _ h.1.0;
      stepped = leb-true _ _ h.1.1.0;
      step = leb-true _ _ h.1.1.1.0;
      whole = eqb-true _ _ h.1.1.1.1.0;
      search = leb-true _ _ h.1.1.1.1.1.0;
      shaped = leb-true _ _ h.1.1.1.1.1.1.0;
      aspect = leb-true _ _ h.1.1.1.1.1.1.1.0;
      working = leb-true _ _ h.1.1.1.1.1.1.1.1.0;
      workers = leb-true _ _ h.1.1.1.1.1.1.1.1.1.0;
    }

is_frames : (scan : Scan) → 1 ≤ scan_number scan → scan_number scan ≤ 1 → scan ≡ Frames
unfolding scan_number
is_frames Progressive low high = absurd (omega arith)
is_frames Frames low high = refl
is_frames Fields low high = absurd (omega arith)

in_pulldown : (s : Settings) → judged (if s.pulldown then pulldown_rules s else []) ≡ Ok tt → InPulldown s
unfolding pulldown_rules
in_pulldown s e =
    let h = λ (on : s.pulldown ≡ true). all_hold (pulldown_rules s) (rw on at e) in
    record {
      scan = λ on. is_frames s.scan (leb-true _ _ (h on).0) (leb-true _ _ (h on).1.0);
      code = λ on. leb-true _ _ (h on).1.1.0;
      codes = λ on. leb-true _ _ (h on).1.1.1.0;
    }

-- settings that pass keep to the bounds
pub bounds : (s : Settings) → Passes s → Bounds s
bounds s passes =
    let a = sym (in_turn s) ∙ passes in
    let b = and_then-next _ _ a in
    let c = and_then-next _ _ b in
    let d = and_then-next _ _ c in
    let e = and_then-next _ _ d in
    let rates = in_rates s (in_frame (limits_of s.level) s.scan s.width s.height s.rate_code (and_then-first _ _ a)) (and_then-first _ _ b) in
    record {
      size = rates.0;
      level = rates.1;
      time = in_time s (and_then-first _ _ c) (and_then-first _ _ d);
      choice = in_choice s (and_then-first _ _ e);
      pulldown = in_pulldown s (and_then-next _ _ e);
    }
