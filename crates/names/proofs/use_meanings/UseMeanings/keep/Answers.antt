use Rattle.std.proofs.Common.{refl, arith}
use Rattle.names.proofs.UseChains.{kept_one}
use Rattle.names.proofs.use_meanings.UseMeanings.keep.Goals as goal

pub returns : goal.returns
returns c =
    kept_one c.args.self.now _ c.reach.new.firsts.items
    (record { at = c.args.at; next = c.index-next.result.now; meaning = c.args.meaning }) c.block_of-block.result
    c.in_ok-number.number _ c.requires c.in_ok-reach.ensures c.block_of-block.ensures c.index-next.ensures
    (omega (arith, c.in_ok-number.ensures, c.len.ensures, c.args.self.now.uses.ok.0)) refl c.in_ok-push.ensures.items
