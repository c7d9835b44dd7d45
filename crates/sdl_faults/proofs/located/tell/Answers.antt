use Rattle.std.proofs.Common.{refl}
use Rattle.sdl_faults.specs.declared.located.LocatedFault.{LocatedFault}
use Rattle.sdl_faults.proofs.located.tell.Goals as goal

pub returns : goal.returns
returns g c =
    let fault : LocatedFault = record { position = c.args.position; others = c.args.others; message = c.in_ok-message.message } in
    record {
      fault = fault;
      position_is = refl;
      others_are = refl;
      message_is = c.in_ok-message.ensures.ok;
      all = c.in_ok-push.ensures.items;
    }
