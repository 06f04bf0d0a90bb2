use Rattle.cluster.proofs.cluster.Cluster.expire.Goals as goal

pub returns-clause-reply : goal.returns-clause-reply
returns-clause-reply g c = c.expire.ensures.reply (g.T.Rotation.leads c.args.self.now.rotation)
