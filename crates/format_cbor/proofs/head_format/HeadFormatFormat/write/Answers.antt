use Rattle.format_cbor.proofs.lemmas.HeadReading.{head-written}
use Rattle.format_cbor.proofs.head_format.HeadFormatFormat.write.Goals as goal

pub returns-in-Some : goal.returns-in-Some
returns-in-Some c =
    head-written c.in-Some.first c.args.value.now.argument c.args.value.now c.in-Some.ensures
    c.args.bytes.now.items c.write.new.bytes.items c.write.result c.write.ensures
