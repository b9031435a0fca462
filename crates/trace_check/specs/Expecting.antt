-- What an expecter has read of the lines that were expected.
use Rattle.std.specs.Prelude.{List, [], ◌∷◌, ◌++◌, refl}
use Rattle.std.proofs.Common.{◌≡◌, ap, sym, subst}
use Rattle.trace_text.specs.declared.lines.Line.{Line}
use Rattle.trace_laws.specs.Script.{Script, Says, say}
use Rattle.trace_laws.proofs.Walking.{walks-none, walks-on, faults-on}
use Rattle.trace_tell.specs.Telling.{TellerLaws}
use Rattle.trace_check.specs.declared.faults.CheckFail.{CheckFail}
use Rattle.trace_check.specs.declared.faults.CheckFail.TheVariants.{NotATrace, NoMemory}
use Rattle.trace_check.specs.declared.places.Place.{Place}
use Rattle.trace_check.specs.declared.expecter.Expecter.{Expecter}
use Rattle.trace_check.specs.Reading.{Fails, Leads}

-- the text from one place to the other is that of these lines, for every continuation of the script
abbrev pub expecter_told : Expecter → Expecter → List Line → Type 0
expecter_told a b lines = (rest : Script) → Leads (say lines rest) a.at rest b.at

-- the text has a fault in these lines, for every continuation of the script
abbrev pub expecter_stopped : Expecter → Expecter → CheckFail → List Line → Type 0
expecter_stopped a b fail lines = (rest : Script) → Fails (say lines rest) a.at fail

abbrev pub check_out_of_memory : CheckFail
check_out_of_memory = NoMemory

-- lines and then others
say-append : (xs ys : List Line) (rest : Script) → say (xs ++ ys) rest ≡ say xs (say ys rest)
say-append [] ys rest = refl
say-append (x ∷ xs) ys rest = ap (λ (more : Script). Says x more) (say-append xs ys rest)

-- some text that leads on in the script, followed by a fault
pub fails-on : (a b : Script) (at mid : Place) (fail : CheckFail) → Leads a at b mid → Fails b mid fail → Fails a at fail
fails-on a b at mid (NotATrace f) w fails = faults-on a b at.left.now mid.left.now at.line mid.line f.line f.rule w fails
fails-on a b at mid NoMemory w fails = tt

pub expecter_laws : TellerLaws expecter_told expecter_stopped check_out_of_memory
expecter_laws = record {
  none = λ a rest. walks-none rest a.at.left.now a.at.line;
  more = λ a b c xs ys one two rest.
      subst (λ (x : Script). Leads x a.at rest c.at) (sym (say-append xs ys rest))
      (walks-on (say xs (say ys rest)) (say ys rest) rest a.at.left.now b.at.left.now c.at.left.now a.at.line b.at.line c.at.line (one (say ys rest)) (two rest));
  front = λ a b fail xs ys one rest. subst (λ (x : Script). Fails x a.at fail) (sym (say-append xs ys rest)) (one (say ys rest));
  later = λ a b c fail xs ys one two rest.
      subst (λ (x : Script). Fails x a.at fail) (sym (say-append xs ys rest))
      (fails-on (say xs (say ys rest)) (say ys rest) a.at b.at fail (one (say ys rest)) (two rest));
  short = λ a line lines rest. tt;
}
