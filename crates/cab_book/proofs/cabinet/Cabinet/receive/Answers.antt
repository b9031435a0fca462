use Rattle.std.proofs.Common.{◌≡◌, ◌∙◌, List, ℕ, Option, Some, None, refl, sym, ap, subst}
use Rattle.std.proofs.Math.Logic.{∥∥₁_map}
use Rattle.sig_types.specs.Items.{Came}
use Rattle.sig_tables.specs.declared.tables.Tables.{Tables}
use Rattle.agent.specs.declared.ask.Ask.{Ask}
use Rattle.agent.specs.Asks.{ask_of}
use Rattle.cabinet_history.specs.CabinetHistory.{CabinetHistory, with_item}
use Rattle.cabinet_history.specs.Coming.{Coming, coming, in_force, heeded, ask_after}
use Rattle.cabinet_history.specs.CabinetAnswers.{replied, ask_end, in_frame}
use Rattle.cab_book.specs.declared.cabinet.Cabinet.{Cabinet}
use Rattle.cab_book.specs.CabinetStands.{CabinetKeeps}
use Rattle.cab_book.proofs.cabinet.Cabinet.receive.Goals as goal

-- what was read is what the cabinet history says that the frame asks
asked : (found : Option Ask) (octets community items : List ℕ) (t : Tables) (cabinet_history : CabinetHistory) → found ≡ ask_of octets community t → community ≡ items
    → items ≡ cabinet_history.community → t ≡ in_force (coming cabinet_history) → found ≡ ask_after cabinet_history octets
asked found octets community items t cabinet_history e a b f =
    e ∙ ap (λ (x : List ℕ). ask_of octets x t) (a ∙ b) ∙ ap (λ (x : Tables). ask_of octets cabinet_history.community x) f

-- what the cabinet keeps, whatever ask it holds
abbrev with_ask : Cabinet → Ask → Cabinet
with_ask c ask = record { control = c.control; stage = c.stage; community = c.community; ticks = c.ticks; ask = ask }

keeps_with : (c : Cabinet) (ask : Ask) (has : Coming) → CabinetKeeps c has → CabinetKeeps (with_ask c ask) has
keeps_with c ask has is = record { control = is.control; stage = is.stage; counted = is.counted; sound = is.sound }

some-none : (ask : Ask) → Some ask ≡ None → ⊥
some-none ask e = cc

pub heed-told-requires : goal.heed-told-requires
heed-told-requires c =
    record { some = ∥∥₁_map c.requires.some (λ some. (coming some.0, keeps_with c.args.self.now c.decode_into.new.ask (coming some.0) some.1.keeps)); asked = c.in-Some.ensures.asked; can = c.in-Some.ensures.fit }

pub returns-in-Some-clause-text : goal.returns-in-Some-clause-text
returns-in-Some-clause-text c = λ cabinet_history is.
    let e = asked (Some c.decode_into.new.ask) c.args.octets.now c.as_slice-community.result.now c.args.self.now.community.items c.tables.result.now cabinet_history (sym c.in-Some.ensures.reads)
    c.as_slice-community.ensures.value is.community (c.tables.ensures.tables (coming cabinet_history).history is.keeps.control) in
    c.heed-told.ensures.text (coming cabinet_history) (keeps_with c.args.self.now c.decode_into.new.ask (coming cabinet_history) is.keeps) ∙ ap (λ (x : Option Ask). in_frame (replied (coming cabinet_history) x)) e

pub returns-in-Some-clause-load : goal.returns-in-Some-clause-load
returns-in-Some-clause-load c = λ cabinet_history is.
    let e = asked (Some c.decode_into.new.ask) c.args.octets.now c.as_slice-community.result.now c.args.self.now.community.items c.tables.result.now cabinet_history (sym c.in-Some.ensures.reads)
    c.as_slice-community.ensures.value is.community (c.tables.ensures.tables (coming cabinet_history).history is.keeps.control) in
    c.heed-told.ensures.load (coming cabinet_history) (keeps_with c.args.self.now c.decode_into.new.ask (coming cabinet_history) is.keeps) ∙ ap (ask_end (coming cabinet_history)) e

pub returns-in-Some-clause-stands : goal.returns-in-Some-clause-stands
returns-in-Some-clause-stands c = λ cabinet_history is.
    let e = asked (Some c.decode_into.new.ask) c.args.octets.now c.as_slice-community.result.now c.args.self.now.community.items c.tables.result.now cabinet_history (sym c.in-Some.ensures.reads)
    c.as_slice-community.ensures.value is.community (c.tables.ensures.tables (coming cabinet_history).history is.keeps.control) in
    record {
      community = ap (λ a. a.items) c.heed-told.ensures.community ∙ is.community;
      blank = c.clear-in-Some.ensures;
      keeps = keeps_with c.heed-told.new.self c.clear-in-Some.new.ask (coming (with_item cabinet_history (Came c.args.octets.now)))
          (subst (λ (x : Option Ask). CabinetKeeps c.heed-told.new.self (heeded (coming cabinet_history) x)) e
          (c.heed-told.ensures.keeps (coming cabinet_history) (keeps_with c.args.self.now c.decode_into.new.ask (coming cabinet_history) is.keeps)));
    }

pub returns-in-Some-clause-nothing : goal.returns-in-Some-clause-nothing
returns-in-Some-clause-nothing c = λ cabinet_history is none.
    let e = asked (Some c.decode_into.new.ask) c.args.octets.now c.as_slice-community.result.now c.args.self.now.community.items c.tables.result.now cabinet_history (sym c.in-Some.ensures.reads)
    c.as_slice-community.ensures.value is.community (c.tables.ensures.tables (coming cabinet_history).history is.keeps.control) in
    absurd (some-none c.decode_into.new.ask (e ∙ none))

pub returns-in-None-clause-text : goal.returns-in-None-clause-text
returns-in-None-clause-text c = λ cabinet_history is.
    let e = asked None c.args.octets.now c.as_slice-community.result.now c.args.self.now.community.items c.tables.result.now cabinet_history (sym c.in-None.ensures.reads)
    c.as_slice-community.ensures.value is.community (c.tables.ensures.tables (coming cabinet_history).history is.keeps.control) in
    ap (λ (x : Option Ask). in_frame (replied (coming cabinet_history) x)) e

pub returns-in-None-clause-load : goal.returns-in-None-clause-load
returns-in-None-clause-load c = λ cabinet_history is.
    let e = asked None c.args.octets.now c.as_slice-community.result.now c.args.self.now.community.items c.tables.result.now cabinet_history (sym c.in-None.ensures.reads)
    c.as_slice-community.ensures.value is.community (c.tables.ensures.tables (coming cabinet_history).history is.keeps.control) in
    ap (ask_end (coming cabinet_history)) e

pub returns-in-None-clause-stands : goal.returns-in-None-clause-stands
returns-in-None-clause-stands c = λ cabinet_history is.
    let e = asked None c.args.octets.now c.as_slice-community.result.now c.args.self.now.community.items c.tables.result.now cabinet_history (sym c.in-None.ensures.reads)
    c.as_slice-community.ensures.value is.community (c.tables.ensures.tables (coming cabinet_history).history is.keeps.control) in
    record {
      community = is.community;
      blank = c.clear-in-None.ensures;
      keeps = keeps_with c.args.self.now c.clear-in-None.new.ask (coming (with_item cabinet_history (Came c.args.octets.now)))
          (subst (λ (x : Option Ask). CabinetKeeps c.args.self.now (heeded (coming cabinet_history) x)) e is.keeps);
    }

pub returns-in-None-clause-nothing : goal.returns-in-None-clause-nothing
returns-in-None-clause-nothing c = λ cabinet_history is none.
    (ap (with_ask c.args.self.now) (c.clear-in-None.ensures ∙ sym is.blank), refl)
