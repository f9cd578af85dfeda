-- The chain is as read, and clear; after it is thinned all is known as before.
use Rattle.std.proofs.Common.{◌∙◌, ◌<◌, length, map, ap, sym, subst, arith}
use Rattle.std.specs.Prelude.{Contains}
use Rattle.std.proofs.lemmas.List.Elements.{All-same}
use Rattle.grid_exact.specs.Near.{weighted}
use Rattle.grid_exact.specs.Weights.{StaysOnGrid}
use Rattle.arc_map.specs.Chains.{chain_at, chain_places}
use Rattle.arc_map.specs.Work.{AreChainsIn, Work}
use Rattle.map_index.specs.MapIndex.{chain_read, no_ref}
use Rattle.std.proofs.Common.{get_or}
use Rattle.cert_checker.specs.Judging.{IsKnown, Judging}
use Rattle.cert_checker.specs.Subject.{record_of}
use Rattle.cert_checker.proofs.Knowing.{known_thinned}
use Rattle.cert_checker.proofs.Reading.{read_places}
use Rattle.cert_checker.proofs.state.JudgeState.judge_entry.Goals as goal

pub weigh_all-requires-clause-on_grid : goal.weigh_all-requires-clause-on_grid
weigh_all-requires-clause-on_grid c =
    let w = c.args.self.now.work in
    let e = ap (λ (s : Judging). s.work) c.self.view_is in
    let places = c.chain.ensures.places ∙ ap (λ (v : Work). chain_places (chain_at v.chains c.args.k)) e
    ∙ ap chain_places c.requires.read in
    let are = subst (λ (s : Judging). AreChainsIn s.work.read s.work.refs) c.self.view_is c.self.invariant.known.lie in
    All-same (StaysOnGrid c.args.weights) c.chain.result.now (chain_places (chain_read w.read w.refs c.args.k)) places
    (read_places (StaysOnGrid c.args.weights) w.read (get_or w.refs c.args.k no_ref) (are.lie c.args.k no_ref c.requires.place)
    c.requires.on_grid)

pub refusal-requires : goal.refusal-requires
refusal-requires c =
    record {
      subject = record {
        known = subst (λ (s : Judging). c.args.k < length s.work.chains) (sym c.self.view_is) c.requires.chain;
        chains = c.self.invariant.known.chains;
        clear = c.self.invariant.known.arranged c.args.k (λ has.
            c.requires.free (subst (λ (s : Judging). Contains s.held (chain_at s.work.chains c.args.k).first.arc) c.self.view_is has));
        weighed = c.as_slice.ensures.value ∙ c.weigh_all.ensures.value
            ∙ ap (map (weighted c.args.weights.x c.args.weights.y)) c.chain.ensures.places;
      };
    }

pub invariant_of-self : goal.invariant_of-self
invariant_of-self c = record { known = c.self.invariant.known; room = omega (arith, c.self.invariant.room, c.weigh_all.ensures.room) }

pub invariant_of-self-in-None : goal.invariant_of-self-in-None
invariant_of-self-in-None c =
    let held = c.self.inside.held in
    let w = c.self.inside.map in
    record {
      known = subst (IsKnown c.self.inside.held) (sym c.thin.ensures)
          (known_thinned c.args.weights.x c.args.weights.y c.args.bound held w c.args.k (record_of c.args.said.now) c.self.invariant.known
          (subst (λ (s : Judging). c.args.k < length s.work.chains) (sym c.self.view_is) c.requires.chain)
          (λ has. c.requires.free (subst (λ (s : Judging). Contains s.held (chain_at s.work.chains c.args.k).first.arc) c.self.view_is has))
          c.in-None.ensures);
      room = omega (arith, c.self.invariant.room, c.weigh_all.ensures.room);
    }
