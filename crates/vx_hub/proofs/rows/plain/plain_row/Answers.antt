use Rattle.std.proofs.Common.{List, refl, ap, sym, ◌∙◌, subst, arith}
use Rattle.std.specs.Prelude.{IfOk}
use Rattle.std.proofs.lemmas.Result.{IfOk-weaker, on_err_weaker}
use Rattle.vx_call.specs.declared.call.Call.{Call}
use Rattle.vx_call.specs.declared.reply.Reply.{Reply}
use Rattle.vx_call.specs.declared.reply.Reply.TheVariants as replies
use Rattle.vx_call.specs.declared.history.Traced.{Traced}
use Rattle.vx_call.specs.History.{plain_entry, no_mark}
use Rattle.vx_call.specs.Machine.{IsLegal}
use Rattle.vx_context.specs.Stands.{IsNext}
use Rattle.vx_hub.specs.Stands.{PartsStand, PartsFollow}
use Rattle.vx_hub.proofs.Calls.{is_of_core, core_keeps_time, keeping_time, makes_outside, makes_pass, tells_time}
use Rattle.vx_hub.proofs.rows.plain.plain_row.Goals as goal

pub core_row-requires : goal.core_row-requires
core_row-requires c = record {
  small = c.requires.small;
  early = c.ms-moment.ensures.bound;
  own = is_of_core c.args.call c.requires.plain c.requires.stored c.in_default.not-NewPass c.in_default.not-NewContext c.in_default.not-Advance;
  one = c.requires.one;
  places = c.requires.places;
  owed = c.requires.owed;
}

pub returns-in-NewPass-clause-ok : goal.returns-in-NewPass-clause-ok
returns-in-NewPass-clause-ok c = λ history stands legal is_next.
    let reply = replies.Pass c.new_pass.result in
    let P : Call → Type 0 = λ call. PartsFollow c.new_pass.new.passes c.args.now.now c.args.life.now c.args.contexts.now c.args.timers.now c.args.bus.now history (plain_entry c.args.pass call reply no_mark) in
    subst P (sym c.in-NewPass.is) (makes_pass c.args.passes.now c.new_pass.new.passes c.args.now.now c.args.life.now c.args.contexts.now c.args.timers.now c.args.bus.now history c.args.pass reply
    stands (rw (← is_next) c.requires.small) (ap (λ n. replies.Pass (record { 0 = n })) c.new_pass.ensures.made) c.new_pass.ensures.more)

pub returns-in-NewContext-clause-ok : goal.returns-in-NewContext-clause-ok
returns-in-NewContext-clause-ok c =
    let P : Call → Type 0 = λ call. IfOk c.new_context.result (λ (reply : Reply). (history : List Traced) → PartsStand c.args.passes.now c.args.now.now c.args.life.now c.args.contexts.now c.args.timers.now c.args.bus.now history → IsLegal history → IsNext c.args.at history →
    PartsFollow c.args.passes.now c.args.now.now c.args.life.now c.new_context.new.contexts c.args.timers.now c.args.bus.now history (plain_entry c.args.pass call reply no_mark)) in
    subst P (sym c.in-NewContext.is) (IfOk-weaker c.new_context.result _ _
    (λ reply row history stands legal is_next.
    makes_outside c.args.passes.now c.args.now.now c.args.life.now c.args.contexts.now c.new_context.new.contexts c.args.timers.now c.args.bus.now history c.args.pass reply stands
    (row history stands.all.stores.contexts stands.all.stores.stored stands.named is_next))
    c.new_context.ensures.ok)

pub returns-in-Advance-clause-ok : goal.returns-in-Advance-clause-ok
returns-in-Advance-clause-ok c = λ history stands legal is_next.
    let P : Call → Type 0 = λ call. PartsFollow c.args.passes.now c.advance.new.now c.args.life.now c.advance.new.contexts c.advance.new.timers c.advance.new.bus history (plain_entry c.args.pass call c.advance.result no_mark) in
    subst P (sym c.in-Advance.is) (tells_time c.args.passes.now c.args.now.now c.advance.new.now c.in-Advance.moment c.args.life.now c.args.contexts.now c.advance.new.contexts c.args.timers.now c.advance.new.timers c.args.bus.now c.advance.new.bus history c.args.pass c.advance.result
    stands c.advance.ensures.now (c.advance.ensures.follows history c.args.pass stands.all.stores (record { next = is_next; now = stands.now })))

pub returns-in_default : goal.returns-in_default
returns-in_default c =
    let own = is_of_core c.args.call c.requires.plain c.requires.stored c.in_default.not-NewPass c.in_default.not-NewContext c.in_default.not-Advance in
    record {
      ok = IfOk-weaker c.core_row.result _ _
          (λ reply row history stands legal is_next.
          keeping_time c.args.passes.now c.args.now.now c.core_row.new.life c.core_row.new.contexts c.core_row.new.timers c.core_row.new.bus history (plain_entry c.args.pass c.args.call reply no_mark) (core_keeps_time c.args.call own) refl stands.passes stands.now stands.named
          (row history stands.all legal (record { next = is_next; now = c.ms-moment.ensures.same ∙ stands.now })))
          c.core_row.ensures.ok;
      err = on_err_weaker c.core_row.result (λ keeps history stands. record { passes = stands.passes; now = stands.now; named = stands.named; all = keeps history stands.all }) c.core_row.ensures.err;
      passes_stay = omega arith;
      back = c.core_row.ensures.back;
      sure = c.core_row.ensures.sure;
      places = c.core_row.ensures.places;
      owed = c.core_row.ensures.owed;
    }
