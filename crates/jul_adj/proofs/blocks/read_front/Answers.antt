use Rattle.std.proofs.Common.{arith, take, drop, refl}
use Rattle.std.proofs.lemmas.List.{length-take-le}
use Rattle.jul_adj.proofs.blocks.read_front.Goals as goal

pub returns-clause-read : goal.returns-clause-read
returns-clause-read g c = record {
  asked = take c.args.most c.args.room.now;
  answer = c.read.new.buf;
  more = drop c.args.most c.args.room.now;
  some = omega (arith, length-take-le c.args.most c.args.room.now c.requires.room, c.requires.some);
  moves = c.in_ok-count.ensures.moves;
  told = c.in_ok-count.ensures.ok;
  within = omega (arith, c.in_ok-count.ensures.within, c.read.auto.buf);
  are = refl;
  few = omega (arith, c.in_ok-count.ensures.within, length-take-le c.args.most c.args.room.now c.requires.room);
  is_open = c.read.ensures.is_open;
}
