use Rattle.cluster.proofs.cluster.Cluster.show.Goals as goal

pub returns-clause-reply : goal.returns-clause-reply
returns-clause-reply g c = c.show.ensures.reply (g.T.Rotation.leads c.args.self.now.rotation)
