use Rattle.std.proofs.Common.{refl}
use Rattle.format_resp.specs.declared.scan.Part.TheVariants.{Begin}
use Rattle.format_resp.proofs.lemmas.ScanLemmas.{scanned-start}
use Rattle.format_resp.proofs.scan.ReplyToScan.start.Goals as goal

pub returns : goal.returns
returns c =
    scanned-start c.args.self.now.longest c.args.self.now.depth (record { wanted = c.new.result; digits = c.new-2.result; part = Begin }) refl c.new.ensures
