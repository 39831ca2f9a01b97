use Rattle.std.proofs.Common.{◌≡◌, ◌+◌, ◌<◌, [], length, take, get_or, not, refl, ap, sym, ◌∙◌, arith}
use Rattle.std.specs.Prelude.{filter}
use Rattle.vx_timer.specs.declared.timers.Timer.{Timer}
use Rattle.vx_request.specs.Leaving.{ends_with}
use Rattle.vx_call.proofs.Lasting.{filter_all}
use Rattle.vx_bus_delivery.specs.Lost.{is_timer_of}
use Rattle.vx_bus_delivery.proofs.LostRows.{one_more, none_more, timers_more}
use Rattle.vx_bus_delivery.proofs.leaving.cancel_timers.Goals as goal
use Rattle.vx_bus_delivery.proofs.leaving.cancel_timers.Goals.{then-ends_with, else-ends_with}

pub loop-index-init : goal.loop-index-init
loop-index-init c = sym (filter_all (λ (timer : Timer). not (is_timer_of [] timer)) (λ timer. refl) c.args.timers.now)

pub loop-index-preserved : goal.loop-index-preserved
loop-index-preserved c =
    let rows = c.args.bus.now.requests.waiting in
    let test = ends_with c.args.leaver c.args.bus.now.given in
    let i = c.loop-index.index in
    let row = c.open_at-row.result in
    let within : i < length rows = omega (arith, c.open_count-index-end.ensures) in
    let read : row ≡ get_or rows i row = c.open_at-row.ensures in
    let tested : c.ends_with.result ≡ test row = c.ends_with.ensures in
    elim c.if-ends_with.branch [
      | then-ends_with w ↦
          w.timers-is ∙ timers_more c.args.timers.now c.loop-index.timers w.cancel.new.self row (filter test (take i rows)) (filter test (take (i + 1) rows)) c.loop-index.invariant w.cancel.ensures.left
          (one_more test rows i row within read (sym tested ∙ w.if-ends_with.true))
      | else-ends_with w ↦
          w.timers-is ∙ c.loop-index.invariant
          ∙ ap (λ lost. filter (λ (timer : Timer). not (is_timer_of lost timer)) c.args.timers.now) (sym (none_more test rows i row within read (sym tested ∙ w.if-ends_with.false)))
    ]
