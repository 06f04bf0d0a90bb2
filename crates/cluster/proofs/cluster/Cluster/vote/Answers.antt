use Rattle.cluster.proofs.cluster.Cluster.vote.Goals as goal

pub returns-clause-reply : goal.returns-clause-reply
returns-clause-reply g c = c.vote.ensures.reply (g.T.Rotation.leads c.args.self.now.rotation)
