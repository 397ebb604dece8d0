use Rattle.std.proofs.Common.{Err}
use Rattle.format_cbor.proofs.lemmas.HeadReading.{following-written}
use Rattle.format_cbor.proofs.argument.ArgumentFormat.write.Goals as goal

pub returns-in-Err : goal.returns-in-Err
returns-in-Err c =
    following-written c.args.self.now c.in-Following.width c.args.value.now c.args.bytes.now.items c.write_following.new.bytes.items
    (Err c.in-Err.unwritten) c.in-Following.is c.in-Err.ensures
