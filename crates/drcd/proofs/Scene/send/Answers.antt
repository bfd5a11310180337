-- `drcd::Scene::send` meets its contract.
use Prim.Native.Nat.{◌+◌, ◌*◌, ◌^◌, ◌<◌}
use native.Mathlib.Omega.{arith}
use Rattle.timeline.specs.Timeline.{tick_room}
use Rattle.drcd.proofs.Sending.{ask_beside, ask_span, place_fits, sent_is}
use Rattle.drcd.proofs.Scene.send.Goals as goal
use Rattle.drcd.proofs.Scene.send.Goals.{After-least_beside-start}

-- its place on the line, and where it ends there
fits : (c : After-least_beside-start) →
    c.link_number-resource.result * tick_room + c.least_beside-start.result + c.link_time.result * c.args.input.now.volume < 2 ^ 64
fits c = place_fits c.requires c.link_time.ensures c.link_number-resource.ensures c.least_beside-start.ensures

pub least_beside-start-requires : goal.least_beside-start-requires
least_beside-start-requires c = (omega arith, (omega arith, ask_beside c.requires c.link_time.ensures c.link_number-resource.ensures))

pub overflow_add-begin : goal.overflow_add-begin
overflow_add-begin c = omega (arith, fits (goal.at.overflow_add-begin c).After-least_beside-start)

pub overflow_add-begin-2 : goal.overflow_add-begin-2
overflow_add-begin-2 c = omega (arith, fits (goal.at.overflow_add-begin-2 c).After-least_beside-start)

pub insert-requires : goal.insert-requires
insert-requires c = (omega arith, ask_span c.requires)

pub overflow_add-result : goal.overflow_add-result
overflow_add-result c = omega (arith, fits (goal.at.overflow_add-result c).After-least_beside-start)

pub returns : goal.returns
returns c =
    sent_is
    c.requires
    c.link_time.ensures
    c.link_number-resource.ensures
    c.least_beside-start.ensures
    c.link_rate.ensures
    c.insert.ensures
